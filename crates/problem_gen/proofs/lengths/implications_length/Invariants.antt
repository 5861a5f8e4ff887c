use Rattle.std.proofs.Common.{◌≡◌, ◌≤◌, ◌*◌, length}
use Rattle.problem_gen.specs.Chain.{implication, lines_below}
use Rattle.problem_gen.proofs.lengths.implications_length.Given as goal

abbrev pub invariant-loop-j : goal.invariant-loop-j
invariant-loop-j l = record { value : l.total ≡ length (lines_below implication l.j); bound : l.total ≤ 200 * l.j }
