use Rattle.std.proofs.Common.{refl}
use Rattle.prover_state.specs.declared.tables.Basis.{Basis}
use Rattle.prover_search.proofs.BasisLaws.{basis-grown}
use Rattle.prover_search.proofs.prepared.number_start.Goals as goal

pub returns-clause-good : goal.returns-clause-good
returns-clause-good c =
    let old = c.args.basis.now in
    let new : Basis = record { bank = c.start_numbers.new.bank; normal = c.start_numbers.new.normal; lits = c.start_numbers.new.lits; witnesses = old.witnesses } in
    let e = c.start_numbers.ensures in
    basis-grown old new (record { bank = e.grows; lits = e.begins; witnesses = refl }) c.requires.good e.atoms e.right
