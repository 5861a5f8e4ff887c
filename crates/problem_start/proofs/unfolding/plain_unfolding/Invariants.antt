use Rattle.std.proofs.Common.{take}
use Rattle.problem_start.specs.Unfolds.{StandAt}
use Rattle.problem_start.proofs.unfolding.plain_unfolding.Given as goal

abbrev pub invariant-loop-i : goal.invariant-loop-i
invariant-loop-i l = StandAt l.problem.assumed l.left.items (take l.i l.problem.assumed)
