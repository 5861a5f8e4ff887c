use Rattle.std.proofs.Common.{◌≡◌, ◌≤◌, ◌*◌, length}
use Rattle.problem_gen.specs.Chain.{predicate_letter, lines_below}
use Rattle.problem_gen.proofs.lengths.predicates_length.Given as goal

abbrev pub invariant-loop-k : goal.invariant-loop-k
invariant-loop-k l = record { value : l.total ≡ length (lines_below predicate_letter l.k); bound : l.total ≤ 200 * l.k }
