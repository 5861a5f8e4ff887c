-- What the solver's answers say of the state.
use Rattle.std.specs.Prelude.{◌≡◌, ◌≤◌, ℕ, length, slice_get, Some}
use Rattle.std.proofs.Common.{sym, subst, ◌∙◌}
use Rattle.sat_base.specs.Truth.{Unsat}
use Rattle.sat_core.specs.Solver.{SolverState, learned}
use Rattle.command_queue.specs.Queue.{Queue}
use Rattle.search_spec.specs.Unsatisfiable.{Unsatisfiable}
use Rattle.term_bank.specs.Laws.{EqualIdsForEqualTerms}
use Rattle.tableau_clauses.specs.Table.{the_clauses}
use Rattle.prover_state.specs.declared.command.Planned.{Planned}
use Rattle.prover_state.specs.declared.command.Delays.{Delays}
use Rattle.prover_state.specs.declared.tables.Tables.{Tables}
use Rattle.prover_state.specs.Internal.Standing.{the_state, IsRightState}
use Rattle.prover_state.proofs.NumberLaws.{unsatisfiable-numbers}

module _ (t : Tables) (q : Queue Planned Delays) (r : IsRightState t q) (equal : EqualIdsForEqualTerms t.basis.bank) (differ : (v w id : ℕ) → slice_get t.basis.lits v ≡ Some id → slice_get t.basis.lits w ≡ Some id → v ≡ w) (y : SolverState) (same : y.clauses ≡ t.solver.clauses) where
  pub refuted : Unsat y.clauses → Unsatisfiable (the_state t q).clauses
  refuted u = (unsatisfiable-numbers t.basis.bank t.basis.lits r.basis.atoms equal differ (the_clauses t.steps) r.clauses).0 (subst Unsat (same ∙ r.solver) u)

  pub satisfied : (Unsat y.clauses → ⊥) → Unsatisfiable (the_state t q).clauses → ⊥
  satisfied never u = never (subst Unsat (sym (same ∙ r.solver)) ((unsatisfiable-numbers t.basis.bank t.basis.lits r.basis.atoms equal differ (the_clauses t.steps) r.clauses).1 u))

  pub right-solved : length (learned y) ≤ q.rule.mode.conflicts → IsRightState (record t { solver = y }) q
  right-solved within = record {
    basis = r.basis;
    clauses = r.clauses;
    seen = r.seen;
    noted = r.noted;
    universals = r.universals;
    terms = r.terms;
    chosen = r.chosen;
    described = r.described;
    walked = r.walked;
    taken = r.taken;
    index = r.index;
    paired = r.paired;
    offered = r.offered;
    takers = r.takers;
    stems = r.stems;
    open_holes = r.open_holes;
    roots = r.roots;
    holes = r.holes;
    queue = r.queue;
    solver = same ∙ r.solver;
    budget = within;
  }
