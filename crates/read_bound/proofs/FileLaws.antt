-- Runs over what files state have small terms.
use Rattle.stt_core.specs.Declarations.{scope_of}
use Rattle.delta_defs.specs.Unfolding.{unfolded_problem}
use Rattle.tableau_calculus.specs.Start.{start}
use Rattle.search_spec.specs.State.{Setting}
use Rattle.type_bound.proofs.StartLaws.{start-keeps}
use Rattle.type_bound.proofs.SmallLaws.{stay_small}
use Rattle.type_bound.proofs.UnfoldLaws.{unfolding-keeps}
use Rattle.read_bound.specs.Read.{RunsOfFilesStaySmall}
use Rattle.read_bound.proofs.ReadLaws.{readings_modest}

pub files_stay_small : RunsOfFilesStaySmall
files_stay_small texts file names ss p gathers read mode n s e =
    let modest = unfolding-keeps 1024 p (readings_modest texts file names ss p gathers read) in
    let setting : Setting = record { scope = scope_of p.declared; mode = mode } in
    let starts = start (unfolded_problem p) in
    stay_small setting starts (record { some = modest.some; names = modest.names }) (start-keeps 1024 (unfolded_problem p) modest) n s e
