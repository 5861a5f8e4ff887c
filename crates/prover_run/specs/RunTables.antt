-- The tables of a run, from whose log a refutation is rebuilt.
use Rattle.std.specs.Prelude.{List, map}
use Rattle.search_spec.specs.Unsatisfiable.{Clause}
use Rattle.command_queue.specs.Queue.{Queue}
use Rattle.prover_state.specs.declared.command.Planned.{Planned}
use Rattle.prover_state.specs.declared.command.Delays.{Delays}
use Rattle.prover_state.specs.declared.tables.Tables.{Tables}
use Rattle.literal_map.specs.Atoms.{bank_literal}
use Rattle.tableau_clauses.specs.Table.{the_clauses}
use Rattle.rebuild_spec.specs.Input.{Input}
use Rattle.tableau_rebuild.specs.Tables.{the_input}
use Rattle.prover_search.specs.Internal.Running.{IsRunning}

-- the tables are those of a run, whatever waits
pub record AreRunTables (t : Tables) : Type 0 where
  pub plan : Queue Planned Delays
  pub running : IsRunning t plan

-- the clauses of formulas that the tables stand for
abbrev pub clauses_of : Tables → List Clause
clauses_of t = map (map (bank_literal t.basis.bank.terms t.basis.lits)) (the_clauses t.steps)

-- what a refutation is rebuilt from
abbrev pub input_of : Tables → Input
input_of t = the_input t.basis.bank t.basis.lits t.steps t.solver.log t.basis.witnesses
