-- Texts that are written piece by piece.
use Rattle.std.proofs.Common.{◌≡◌, ℕ, zero, suc, ◌+◌, ◌≤◌, Bool, List, [], ◌∷◌, ◌++◌, take, drop, slice_get, Some, sym, ap, subst, ◌∙◌, append-nil, append_assoc, add-one, ◌<◌, length, get_or, arith, Result, Ok, Err, OnOk, OnErr, IsTrue}
use Rattle.std.specs.List.{flat_map}
use Rattle.std.proofs.lemmas.Grind.{flat_map-append}
use Rattle.outside.specs.Causes.{Rose}
use Rattle.outside.specs.Prefix.{AppendsProperly}
use Rattle.outside.specs.Writing.{Took, Stopped}
use Rattle.outside.proofs.Writes.{took_both, stopped_first, stopped_later}
use Rattle.szs_report.specs.Internal.Pieces.{Writes}

-- the piece that is read at a place
pub read_there : {X : Type 0} (xs : List X) (i : ℕ) (x : X) → i < length xs → x ≡ get_or xs i x → slice_get xs i ≡ Some x
read_there [] i x within is = absurd (omega (arith, within))
read_there (y ∷ xs) zero x within is = ap Some (sym is)
read_there (y ∷ xs) (suc i) x within is = read_there xs i x (omega (arith, within)) is

-- the pieces up to one, and that one
up_to_suc : {X : Type 0} (f : X → List ℕ) (xs : List X) (i : ℕ) (x : X) → slice_get xs i ≡ Some x → flat_map f (take (suc i) xs) ≡ flat_map f (take i xs) ++ f x
up_to_suc f [] i x there = cc
up_to_suc f (y ∷ xs) zero x there = let same : y ≡ x = cc in append-nil (f y) ∙ ap f same
up_to_suc f (y ∷ xs) (suc i) x there = ap (λ z. f y ++ z) (up_to_suc f xs i x there) ∙ sym (append_assoc (f y) (flat_map f (take i xs)) (f x))

up_to : {X : Type 0} (f : X → List ℕ) (xs : List X) (i : ℕ) (x : X) → slice_get xs i ≡ Some x → flat_map f (take (i + 1) xs) ≡ flat_map f (take i xs) ++ f x
up_to f xs i x there = rw add-one (up_to_suc f xs i x there)

-- the pieces before one, that one, and the pieces after it
around : {X : Type 0} (f : X → List ℕ) (xs : List X) (i : ℕ) (x : X) → slice_get xs i ≡ Some x → flat_map f xs ≡ flat_map f (take i xs) ++ (f x ++ flat_map f (drop (suc i) xs))
around f [] i x there = cc
around f (y ∷ xs) zero x there = let same : y ≡ x = cc in ap (λ z. f z ++ flat_map f xs) same
around f (y ∷ xs) (suc i) x there = ap (λ z. f y ++ z) (around f xs i x there) ∙ sym (append_assoc (f y) (flat_map f (take i xs)) (f x ++ flat_map f (drop (suc i) xs)))

nothing_behind : (a b : List ℕ) → a ++ b ≡ [] → b ≡ []
nothing_behind [] b none = none
nothing_behind (x ∷ a) b none = cc

-- of empty pieces, those from one on
drop_empty : {X : Type 0} (f : X → List ℕ) (xs : List X) (n : ℕ) → flat_map f xs ≡ [] → flat_map f (drop n xs) ≡ []
drop_empty f [] zero none = none
drop_empty f [] (suc n) none = none
drop_empty f (x ∷ xs) zero none = none
drop_empty f (x ∷ xs) (suc n) none = drop_empty f xs n (nothing_behind (f x) (flat_map f xs) none)

-- pieces with empty ones behind them
pub padded : {X : Type 0} (f : X → List ℕ) (xs ys : List X) (n : ℕ) → flat_map f ys ≡ [] → flat_map f (xs ++ drop n ys) ≡ flat_map f xs
padded f xs ys n none = flat_map-append f xs (drop n ys) ∙ ap (λ z. flat_map f xs ++ z) (drop_empty f ys n none) ∙ append-nil (flat_map f xs)

module _ {S : Type 0} (tells : S → Bool) (written : S → List ℕ) (faults : S → ℕ) where
  pub writes_by : {E : Type 0} (s t : S) (text : List ℕ) (r : Result (Unit {0}) E) →
      OnOk r (IsTrue (tells s) → written t ≡ written s ++ text) → OnErr r (IsTrue (tells s) → AppendsProperly (written s) (written t) text) →
      OnOk r (faults t ≡ faults s) → OnErr r (Rose (faults s) (faults t)) → faults s ≤ faults t → (IsTrue (tells s) → IsTrue (tells t)) →
      Writes tells written faults s t text r
  writes_by s t text (Ok x) appended cut quiet cause later telling = record { appended = appended; quiet = quiet; telling = telling }
  writes_by s t text (Err e) appended cut quiet cause later telling = record { cut = cut; cause = cause; later = later; telling = telling }

module _ {S : Type 0} {tells : S → Bool} {written : S → List ℕ} {faults : S → ℕ} where
  pub took_up_to : {X : Type 0} (f : X → List ℕ) (xs : List X) (i : ℕ) (x : X) {s t u : S} → slice_get xs i ≡ Some x → Took tells written faults s t (flat_map f (take i xs)) → Took tells written faults t u (f x) → Took tells written faults s u (flat_map f (take (i + 1) xs))
  took_up_to f xs i x {s = s} {u = u} there before here = subst (Took tells written faults s u) (sym (up_to f xs i x there)) (took_both _ _ before here)

  pub stopped_at : {X : Type 0} (f : X → List ℕ) (xs : List X) (i : ℕ) (x : X) {s t u : S} → slice_get xs i ≡ Some x → Took tells written faults s t (flat_map f (take i xs)) → Stopped tells written faults t u (f x) → Stopped tells written faults s u (flat_map f xs)
  stopped_at f xs i x {s = s} {u = u} there before here =
      subst (Stopped tells written faults s u) (sym (around f xs i x there)) (stopped_later _ _ before (stopped_first _ _ here))
