use Rattle.std.proofs.Common.{length, ap, sym, arith}
use Rattle.problem_gen.specs.Chain.{predicate_letter}
use Rattle.problem_gen.proofs.Lines.{lines_below-zero, length-next}
use Rattle.problem_gen.proofs.lengths.predicates_length.Goals as goal

pub loop-k-init : goal.loop-k-init
loop-k-init c = record { value = sym (ap length (lines_below-zero predicate_letter)); bound = omega arith }

pub loop-k-preserved : goal.loop-k-preserved
loop-k-preserved c = record {
  value = omega (arith, c.loop-k.invariant.value, c.predicate_length-total.ensures.value, length-next predicate_letter c.loop-k.k);
  bound = omega (arith, c.loop-k.invariant.bound, c.predicate_length-total.ensures.bound);
}
