use Rattle.std.proofs.Common.{◌≡◌, ◌≤◌, ◌<◌, ℕ, Bool, List, slice_get, slice_index, Some}
use Rattle.finite_models.specs.Internal.Search.{IsAllowed}
use Rattle.finite_models.proofs.search.reset.Given as goal

abbrev pub invariant-loop-i : goal.invariant-loop-i
invariant-loop-i l = record {
  front : (j : ℕ) → j < l.from → slice_index l.values j ≡ slice_index l.fn.values j;
  least : (j : ℕ) (d : List Bool) → l.from ≤ j → j < l.i → slice_get l.domains j ≡ Some d → IsAllowed d (slice_index l.values j) × ((v : ℕ) → IsAllowed d v → slice_index l.values j ≤ v);
}
