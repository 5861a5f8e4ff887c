use Rattle.std.proofs.Common.{◌≡◌, ℕ, ◌+◌, ◌-◌, false, length, slice_index_or}
use Rattle.prover_state.proofs.set.reach.Given as goal

abbrev pub invariant-loop-marks : goal.invariant-loop-marks
invariant-loop-marks l = record {
  same : (n : ℕ) → slice_index_or l.marks.items n false ≡ slice_index_or l.fn.marks.items n false;
}

abbrev pub decreases-loop-marks : goal.decreases-loop-marks
decreases-loop-marks l = l.number + 1 - length l.marks.items
