use Rattle.std.proofs.Common.{◌≡◌}
use Rattle.tableau_clauses.specs.Internal.Stepping.{with_steps, Adds}
use Rattle.tableau_clauses.proofs.steps.Steps.add_all.Given as goal

-- the clauses that are left bring the steps to what they are to be
abbrev pub invariant-loop-clause : goal.invariant-loop-clause
invariant-loop-clause l = record {
  steps : with_steps l.fn.origin l.self l.clause-iterator.rest.items ≡ with_steps l.fn.origin l.fn.self l.fn.clauses.items;
  adds : Adds l.fn.origin l.fn.self l.self;
}
