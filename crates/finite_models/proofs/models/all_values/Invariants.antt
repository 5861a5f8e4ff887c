use Rattle.std.proofs.Common.{◌≡◌, ◌<◌, ℕ, length}
use Rattle.finite_models.specs.Internal.Search.{IsAllowed}
use Rattle.finite_models.proofs.models.all_values.Given as goal

abbrev pub invariant-loop-v : goal.invariant-loop-v
invariant-loop-v l = record {
  count : length l.allowed.items ≡ l._v;
  each : (i : ℕ) → i < l._v → IsAllowed l.allowed.items i;
}
