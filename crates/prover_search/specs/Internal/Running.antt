-- Tables of a run.
use Rattle.std.specs.Prelude.{◌≡◌, ◌≤◌, List, [], map, length, Some}
use Rattle.stt_core.specs.Typing.{IsScope}
use Rattle.tableau_calculus.specs.Literals.{Literal, IsBranch}
use Rattle.tableau_calculus.specs.Witnesses.{with_rows}
use Rattle.mode_file.specs.declared.Mode.{Mode}
use Rattle.mode_file.specs.Given.{IsInRange}
use Rattle.command_queue.specs.Queue.{Queue}
use Rattle.tableau_calculus.specs.Each.{Each}
use Rattle.search_spec.specs.After.{state_after}
use Rattle.literal_map.specs.Atoms.{bank_literal}
use Rattle.tableau_clauses.specs.Table.{start_units}
use Rattle.type_bound.specs.Modest.{IsModestLiteral, IsModestSetting}
use Rattle.prover_state.specs.declared.command.Planned.{Planned}
use Rattle.prover_state.specs.declared.command.Delays.{Delays}
use Rattle.prover_state.specs.declared.tables.Tables.{Tables}
use Rattle.prover_state.specs.Internal.Standing.{without_witnesses, setting_by, the_state, IsRightState}
use Rattle.prover_state.specs.Internal.Steps.{IsMadeInstance}

-- the literals of the start units, in order
abbrev pub start_in : Tables → List Literal
start_in t = map (bank_literal t.basis.bank.terms t.basis.lits) (start_units t.steps.0)

-- The tables and the commands that wait are right, and they stand for the state of the run from their start units after as many commands
-- as were carried out. The numbers of the mode are within their ranges, the commands are at most as many as it allows, and at most one
-- witness is made by each. The start is typed without witnesses, the types of the names and of the start nest at most 1,024 deep, and each
-- instance is one of its rule.
pub record IsRunning (t : Tables) (q : Queue Planned Delays) : Type 0 where
  pub right : IsRightState t q
  pub comes_to : state_after (setting_by t q) (start_in t) t.done ≡ Some (the_state t q)
  pub range : IsInRange q.rule.mode
  pub within : t.done ≤ q.rule.mode.commands
  pub few : length t.basis.witnesses ≤ t.done
  pub declared : IsScope (without_witnesses t.basis.bank)
  pub start : IsBranch (with_rows (without_witnesses t.basis.bank) []) (start_in t)
  pub modest : IsModestSetting 1024 (setting_by t q)
  pub modest_start : Each (IsModestLiteral 1024) (start_in t)
  pub made : Each (IsMadeInstance t.basis) t.steps.1

-- tables of a run by this mode
pub record IsUnderWay (t : Tables) (q : Queue Planned Delays) (m : Mode) : Type 0 where
  pub mode : q.rule.mode ≡ m
  pub running : IsRunning t q
