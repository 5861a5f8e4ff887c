-- What the answers of a step say of the state before it and of the one after.
use Rattle.std.specs.Prelude.{◌≡◌, ◌≢◌, ◌≤◌, ◌^◌, ◌+◌, ◌++◌, ℕ, List, [], ◌∷◌, Some, length}
use Rattle.sat_base.specs.declared.literal.Var.{Var}
use Rattle.sat_base.specs.declared.literal.SatLit.{SatLit}
use Rattle.sat_log.specs.Chains.{results}
use Rattle.sat_log.specs.Propagation.{ReachesFalse, AreFailingDecisions}
use Rattle.sat_core.specs.Solver.{learned, AreAmong}
use Rattle.search_spec.specs.Unsatisfiable.{Unsatisfiable}
use Rattle.search_spec.specs.After.{next_state}
use Rattle.prover_search.specs.Internal.Progress.{Progress, setting_of, state_of}
use Rattle.prover_search.specs.declared.stepped.Stepped.{Stepped}
use Rattle.prover_search.specs.declared.stepped.Stepped.TheVariants.{Closed, Empty, Limit, Spent, Went}

-- the state and the number of commands are the same
pub record Stays (old new : Progress) : Type 0 where
  pub state : state_of new ≡ state_of old
  pub done : new.tables.done ≡ old.tables.done

-- the clauses are unsatisfiable; the last result of the log is the empty clause, and unit propagation finds a false clause
pub record StepCloses (old new : Progress) : Type 0 where
  pub unsatisfiable : Unsatisfiable (state_of old).clauses
  pub stays : Stays old new
  pub ends : results new.tables.solver.log ≡ learned new.tables.solver ++ [] ∷ []
  pub propagated : ReachesFalse (new.tables.solver.clauses ++ learned new.tables.solver) []

-- the clauses are satisfiable, and no command is left
pub record IsEmpty (old new : Progress) : Type 0 where
  pub satisfiable : Unsatisfiable (state_of old).clauses → ⊥
  pub none_left : (state_of old).queue ≡ []
  pub stays : Stays old new

-- the clauses are satisfiable, commands are left, and the limit is reached
pub record IsAtLimit (old new : Progress) : Type 0 where
  pub satisfiable : Unsatisfiable (state_of old).clauses → ⊥
  pub some_left : (state_of old).queue ≢ []
  pub at_limit : old.tables.done ≡ old.plan.rule.mode.commands
  pub stays : Stays old new

-- the conflicts of the mode are spent: that many clauses were learned, and some decisions lead to one conflict more; with conflicts for
-- all clauses over the variables they are never spent
pub record StepSpends (old new : Progress) (conflicts : ℕ) : Type 0 where
  pub reported : conflicts ≡ old.plan.rule.mode.conflicts
  pub counted : length (learned new.tables.solver) ≡ conflicts
  pub decisions : List SatLit
  pub failing : AreFailingDecisions (new.tables.solver.clauses ++ learned new.tables.solver) decisions
  pub few : (variables : List Var) → AreAmong variables new.tables.solver.clauses → 3 ^ length variables ≤ conflicts → ⊥
  pub stays : Stays old new

-- the clauses are satisfiable, commands are left, the limit isn't reached, and the next command was carried out
pub record StepGoesOn (old new : Progress) : Type 0 where
  pub satisfiable : Unsatisfiable (state_of old).clauses → ⊥
  pub some_left : (state_of old).queue ≢ []
  pub below : old.tables.done ≢ old.plan.rule.mode.commands
  pub next : next_state (setting_of old) (Some (state_of old)) ≡ Some (state_of new)
  pub done : new.tables.done ≡ old.tables.done + 1

abbrev pub AnswersStep : Progress → Progress → Stepped → Type 0
AnswersStep old new Closed = StepCloses old new
AnswersStep old new Empty = IsEmpty old new
AnswersStep old new Limit = IsAtLimit old new
AnswersStep old new (Spent conflicts) = StepSpends old new conflicts
AnswersStep old new Went = StepGoesOn old new
