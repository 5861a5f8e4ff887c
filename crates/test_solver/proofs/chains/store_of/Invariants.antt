use Rattle.std.proofs.Common.{◌≡◌, map, take}
use Rattle.test_solver.proofs.chains.store_of.Given as goal

abbrev pub invariant-loop-clause : goal.invariant-loop-clause
invariant-loop-clause l = l.store ≡ map (λ clause. clause.now) (take l.clause-index l.clauses)
