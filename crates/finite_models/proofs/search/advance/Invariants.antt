use Rattle.std.proofs.Common.{◌≡◌, ◌≤◌, ◌<◌, ℕ, Bool, List, length, slice_get, slice_index, Some}
use Rattle.finite_models.specs.Internal.Search.{IsAllowed}
use Rattle.finite_models.proofs.search.advance.Given as goal

abbrev pub decreases-loop-i : goal.decreases-loop-i
decreases-loop-i l = l.i

abbrev pub invariant-loop-i : goal.invariant-loop-i
invariant-loop-i l = record {
  within : l.i ≤ length l.values;
  reach : l.i ≤ l.reach;
  same : l.values ≡ l.fn.values;
  greatest : (j : ℕ) (d : List Bool) → l.i ≤ j → j < l.reach → slice_get l.domains j ≡ Some d → (v : ℕ) → IsAllowed d v → v ≤ slice_index l.fn.values j;
}
