use Rattle.std.proofs.Common.{◌≤◌, ℕ, length, sym, subst}
use Rattle.sat_core.specs.Solver.{learned}
use Rattle.sat_base.specs.Truth.{assigned}
use Rattle.prover_state.proofs.SolveLaws.{refuted, satisfied, right-solved}
use Rattle.prover_state.proofs.tables.Core.solve.Goals as goal

pub solve-requires : goal.solve-requires
solve-requires g c = let N : ℕ → Type 0 = λ n. length (learned c.args.self.now.tables.solver) ≤ n in record { budget = subst N (sym c.requires.budget) c.requires.right.budget }

pub returns-clause-unsat : goal.returns-clause-unsat
returns-clause-unsat g c = λ e.
    let self = c.args.self.now in
    refuted self.tables self.plan c.requires.right c.equal_ids_for_equal_terms.ensures c.atoms_differ.ensures c.solve.new.self c.solve.ensures.grows.clauses_same (c.in_ok-answer.ensures.unsat e)

pub returns-clause-sat : goal.returns-clause-sat
returns-clause-sat g c = λ e.
    let self = c.args.self.now in
    satisfied self.tables self.plan c.requires.right c.equal_ids_for_equal_terms.ensures c.atoms_differ.ensures c.solve.new.self c.solve.ensures.grows.clauses_same
    (c.valuation_law.ensures.satisfiable c.solve.new.self.clauses (assigned c.solve.new.self.values) (c.in_ok-answer.ensures.sat e))

pub returns-clause-right : goal.returns-clause-right
returns-clause-right g c =
    let self = c.args.self.now in
    let N : ℕ → Type 0 = λ n. length (learned c.solve.new.self) ≤ n in
    right-solved self.tables self.plan c.requires.right c.equal_ids_for_equal_terms.ensures c.atoms_differ.ensures c.solve.new.self c.solve.ensures.grows.clauses_same (subst N c.requires.budget c.solve.ensures.within)

pub returns-in_err-answer-clause-right : goal.returns-in_err-answer-clause-right
returns-in_err-answer-clause-right g c =
    let self = c.args.self.now in
    let N : ℕ → Type 0 = λ n. length (learned c.solve.new.self) ≤ n in
    right-solved self.tables self.plan c.requires.right c.equal_ids_for_equal_terms.ensures c.atoms_differ.ensures c.solve.new.self c.solve.ensures.grows.clauses_same (subst N c.requires.budget c.solve.ensures.within)
