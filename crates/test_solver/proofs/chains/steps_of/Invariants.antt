use Rattle.std.proofs.Common.{◌≡◌, map, take}
use Rattle.sat_log.specs.declared.chain.Premise.TheVariants.{Clause}
use Rattle.test_solver.proofs.chains.steps_of.Given as goal

abbrev pub invariant-loop-var : goal.invariant-loop-var
invariant-loop-var l = l.made ≡ map (λ step. record { var = record { 0 = step.0 }; premise = Clause step.1 }) (take l.var-index l.steps)
