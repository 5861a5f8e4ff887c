-- What holds of each element of a list.
use Rattle.std.specs.Prelude.{◌≡◌, ◌≤◌, ◌+◌, ℕ, zero, suc, List, [], ◌∷◌, ◌++◌, take, length, slice_get, Some}
use Rattle.std.specs.List.{AllByRecursion}
use Rattle.std.proofs.Common.{subst, sym, take_all}
use Rattle.std.proofs.lemmas.Option.{same_Some}
use Rattle.stt_core.proofs.ListLaws.{take_got}

module _ {X : Type 0} (P : X → Type 0) where
  -- of one more at the end
  pub all-last : (xs : List X) (x : X) → AllByRecursion P xs → P x → AllByRecursion P (xs ++ x ∷ [])
  all-last [] x h k = (k, tt)
  all-last (y ∷ xs) x h k = (h.0, all-last xs x h.1 k)

  -- of one more
  pub all-more : (xs : List X) (i : ℕ) (x : X) → slice_get xs i ≡ Some x → AllByRecursion P (take i xs) → P x → AllByRecursion P (take (i + 1) xs)
  all-more xs i x at h k = subst (AllByRecursion P) (sym (take_got xs i x at)) (all-last (take i xs) x h k)

  -- of all
  pub all-taken : (xs : List X) (i : ℕ) → length xs ≤ i → AllByRecursion P (take i xs) → AllByRecursion P xs
  all-taken xs i passed h = subst (AllByRecursion P) (take_all i xs passed) h

  pub all-at : (xs : List X) (i : ℕ) (x : X) → AllByRecursion P xs → slice_get xs i ≡ Some x → P x
  all-at [] i x h e = cc
  all-at (y ∷ xs) zero x h e = subst P (same_Some y x e) h.0
  all-at (y ∷ xs) (suc i) x h e = all-at xs i x h.1 e
