-- Texts of lists that are written member by member.
use Rattle.std.proofs.Common.{◌≡◌, ℕ, ◌+◌, ◌<◌, ◌≤◌, Bool, List, ◌++◌, length, take, drop, get_or, sym, subst, Result, Ok, Err, OnErr}
use Rattle.std.specs.List.{flat_map}
use Rattle.outside.specs.Writing.{Took, Stopped}
use Rattle.outside.proofs.Writes.{took_both, stopped_first, stopped_later}
use Rattle.thf_names.proofs.Lists.{flat_map-take_more, flat_map_around, flat_map-take_all}

module _ {S : Type 0} {tells : S → Bool} {written : S → List ℕ} {faults : S → ℕ} where
  -- the members of a list, up to a place and then there
  pub took_more : {s t u : S} {X : Type 0} (f : X → List ℕ) (xs : List X) (i : ℕ) (x d : X) → i < length xs → x ≡ get_or xs i d → Took tells written faults s t (flat_map f (take i xs)) → Took tells written faults t u (f x) → Took tells written faults s u (flat_map f (take (i + 1) xs))
  took_more {s = s} {u = u} f xs i x d within is h k =
      subst (λ text. Took tells written faults s u text) (sym (flat_map-take_more f xs i x d within is)) (took_both (flat_map f (take i xs)) (f x) h k)

  pub stopped_at : {s t u : S} {X : Type 0} (f : X → List ℕ) (xs : List X) (i : ℕ) (x d : X) → i < length xs → x ≡ get_or xs i d → Took tells written faults s t (flat_map f (take i xs)) → Stopped tells written faults t u (f x) → Stopped tells written faults s u (flat_map f xs)
  stopped_at {s = s} {u = u} f xs i x d within is h k =
      subst (λ text. Stopped tells written faults s u text) (sym (flat_map_around f xs i x d within is))
      (stopped_later (flat_map f (take i xs)) (f x ++ flat_map f (drop (i + 1) xs)) h (stopped_first (f x) (flat_map f (drop (i + 1) xs)) k))

  pub took_all : {s t : S} {X : Type 0} (f : X → List ℕ) (xs : List X) (n : ℕ) → length xs ≤ n → Took tells written faults s t (flat_map f (take n xs)) → Took tells written faults s t (flat_map f xs)
  took_all {s = s} {t = t} f xs n h k = subst (λ text. Took tells written faults s t text) (flat_map-take_all f xs n h) k

  -- where the last of two calls may fail
  pub err_later : {A E : Type 0} {s t : S} (u : S) (r : Result A E) (a b : List ℕ) → Took tells written faults s t a → OnErr r (Stopped tells written faults t u b) → OnErr r (Stopped tells written faults s u (a ++ b))
  err_later u (Ok x) a b h k = tt
  err_later u (Err e) a b h k = stopped_later a b h k
