use Rattle.std.proofs.Common.{◌≡◌, ◌<◌, ℕ, Bool, List, slice_get, Some}
use Rattle.finite_models.specs.Internal.Search.{IsAllowed}
use Rattle.finite_models.proofs.search.are_filled.Given as goal

abbrev pub invariant-loop-i : goal.invariant-loop-i
invariant-loop-i l = (i : ℕ) (d : List Bool) → i < l.i → slice_get l.domains i ≡ Some d → (v : ℕ) × IsAllowed d v
