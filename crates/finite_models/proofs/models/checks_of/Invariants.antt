use Rattle.std.proofs.Common.{◌≡◌, ℕ, length, slice_get, Some}
use Rattle.stt_core.specs.Lambda.{Lambda}
use Rattle.finite_models.specs.Internal.Stands.{frame_scope}
use Rattle.finite_models.specs.Internal.Looking.{IsCheck}
use Rattle.finite_models.specs.declared.search.Check.{Check}
use Rattle.finite_models.proofs.models.checks_of.Given as goal

abbrev pub invariant-loop-i : goal.invariant-loop-i
invariant-loop-i l = record {
  count : length l.checks.items ≡ l.i;
  each : (j : ℕ) (t : Lambda) (c : Check) → slice_get l.formulas j ≡ Some t → slice_get l.checks.items j ≡ Some c → IsCheck (frame_scope l.frame) l.frame.size l.frame.choosers.now l.assumed j t c;
}
