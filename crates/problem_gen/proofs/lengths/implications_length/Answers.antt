use Rattle.std.proofs.Common.{length, ap, sym, arith}
use Rattle.problem_gen.specs.Chain.{implication}
use Rattle.problem_gen.proofs.Lines.{lines_below-zero, length-next}
use Rattle.problem_gen.proofs.lengths.implications_length.Goals as goal

pub loop-j-init : goal.loop-j-init
loop-j-init c = record { value = sym (ap length (lines_below-zero implication)); bound = omega arith }

pub loop-j-preserved : goal.loop-j-preserved
loop-j-preserved c = record {
  value = omega (arith, c.loop-j.invariant.value, c.implication_length-total.ensures.value, length-next implication c.loop-j.j);
  bound = omega (arith, c.loop-j.invariant.bound, c.implication_length-total.ensures.bound);
}
