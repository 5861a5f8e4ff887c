use Rattle.std.proofs.Common.{◌≡◌, ◌⊎◌, ℕ, Some, slice_get, take, Contains}
use Rattle.plain_tableau.specs.Internal.Due.{is_due_at, is_due_place, IsInside}
use Rattle.plain_tableau.proofs.path.refresh.Given as goal

abbrev pub invariant-loop-i : goal.invariant-loop-i
invariant-loop-i l = record {
  right : (u k : ℕ) → slice_get l.used u ≡ Some k → (Contains (take l.i l.places) u) ⊎ (is_due_place l.fn.due u ≡ is_due_at l.steps l.branch.keys k) → is_due_place l.due u ≡ is_due_at l.steps l.branch.keys k;
  inside : IsInside l.used l.fn.due → IsInside l.used l.due;
}
