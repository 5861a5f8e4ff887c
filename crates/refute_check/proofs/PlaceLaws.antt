-- First places, and maps that have them.
use Rattle.std.proofs.Common.{◌≡◌, ℕ, ◌+◌, Bool, not, true, false, cond, List, [], ◌∷◌, ◌++◌, length, take, slice_get, Option, Some, None, position, is_some, unwrap_or, refl, sym, ap, ap₂, ◌∙◌, ⊎_elim, arith}
use Rattle.std.proofs.lemmas.Bool.{cases_Bool}
use Rattle.std.proofs.lemmas.Grind.{common_steps}
use Rattle.std.proofs.lemmas.List.Folds.{position_or_len_push}
use Rattle.std.proofs.lemmas.List.Sums.{prefix_len-le-length}
use Rattle.std.specs.Borrow.{Bor}
use Rattle.std.specs.BTreeMap.{BTreeMap, Updates}
use Rattle.std.proofs.lemmas.Map.Text.{is_eq-slice_cmp}
use Rattle.std.specs.Cmp.Lexicographic.{slice_cmp, bytes_decides}
use Rattle.std.specs.Ordering.{nat_cmp}
use Rattle.std.specs.Str.{bytes_eq}
use Rattle.stt_core.proofs.ListLaws.{take_got}
use Rattle.tableau_calculus.proofs.FailureLaws.{length-front}
use Rattle.refute_check.specs.Numbered.{name_place}
use Rattle.refute_check.specs.Internal.Places.{noted, first_place, noted_next, MapsToPlaces}

position_push-kept : {X : Type 0} (p : X → Bool) (xs : List X) (y : X) (k : ℕ) → position p xs ≡ Some k → position p (xs ++ y ∷ []) ≡ Some k
position_push-kept p xs y k h = grind (arith, common_steps, position_or_len_push p xs y, prefix_len-le-length (λ x. not (p x)) xs)

position_push-new : {X : Type 0} (p : X → Bool) (xs : List X) (y : X) → position p xs ≡ None → position p (xs ++ y ∷ []) ≡ cond (p y) (Some (length xs)) None
position_push-new p xs y h = grind (arith, common_steps, position_or_len_push p xs y, prefix_len-le-length (λ x. not (p x)) xs)

-- the first places where one name is added
first_place-push : (names : List (List ℕ)) (name other : List ℕ) → first_place (names ++ name ∷ []) other ≡ noted_next (first_place names other) name (length names) other
first_place-push names name other = go (first_place names other) refl
  where
    go : (o : Option ℕ) → first_place names other ≡ o → first_place (names ++ name ∷ []) other ≡ noted_next o name (length names) other
    go (Some k) h = position_push-kept (λ n. bytes_eq n other) names name k h
    go None h = position_push-new (λ n. bytes_eq n other) names name h

place_found : (names : List (List ℕ)) (name : List ℕ) → unwrap_or (first_place names name) (length names) ≡ name_place names name
place_found names name = grind (arith, common_steps, prefix_len-le-length (λ n. not (bytes_eq n name)) names)

pub none_is : (o : Option ℕ) → is_some o ≡ false → o ≡ None
none_is None h = refl
none_is (Some k) h = cc

-- the name is noted, as it wasn't before
module _ (old new : BTreeMap (Bor (List ℕ)) ℕ) (key : Bor (List ℕ)) (place : ℕ) (updated : Updates (λ x y. slice_cmp nat_cmp x.now y.now) old new key (Some place)) (absent : noted old key.now ≡ None) where
  pub noted-new : (other : List ℕ) → noted new other ≡ noted_next (noted old other) key.now place other
  noted-new other =
      updated.0 (record { ref_ptr = (0, 0); now = other })
      ∙ ap (λ b. cond b (Some place) (noted old other)) (is_eq-slice_cmp key.now other)
      ∙ ⊎_elim
      (λ y. here (bytes_eq key.now other) (noted old other) y (ap (noted old) (sym ((bytes_decides key.now other).0 y)) ∙ absent) refl)
      (λ n. elsewhere (bytes_eq key.now other) (noted old other) n refl)
      (cases_Bool (bytes_eq key.now other))
    where
      here : (b : Bool) (o : Option ℕ) → b ≡ true → o ≡ None → b ≡ bytes_eq key.now other → cond b (Some place) o ≡ noted_next o key.now place other
      here b None h k e = ap (λ c. cond c (Some place) None) e
      here b (Some j) h k e = cc

      elsewhere : (b : Bool) (o : Option ℕ) → b ≡ false → b ≡ bytes_eq key.now other → cond b (Some place) o ≡ noted_next o key.now place other
      elsewhere b None h e = ap (λ c. cond c (Some place) None) e
      elsewhere b (Some j) h e = ap (λ c. cond c (Some place) (Some j)) h

-- one name more has its place
pub places_more : (old new : BTreeMap (Bor (List ℕ)) ℕ) (names : List (List ℕ)) (i : ℕ) (name : List ℕ) → slice_get names i ≡ Some name → MapsToPlaces old (take i names)
    → ((other : List ℕ) → noted new other ≡ noted_next (noted old other) name i other) → MapsToPlaces new (take (i + 1) names)
places_more old new names i name at before next other =
    next other
    ∙ ap (λ o. noted_next o name i other) (before other)
    ∙ ap (λ n. noted_next (first_place (take i names) other) name n other) (sym (length-front names i name at))
    ∙ sym (ap (λ ns. first_place ns other) (take_got names i name at) ∙ first_place-push (take i names) name other)

-- what is found in the map is the place in the list
pub found_place : (places : BTreeMap (Bor (List ℕ)) ℕ) (names all : List (List ℕ)) (name : List ℕ) (count r : ℕ) → r ≡ unwrap_or (noted places name) count → count ≡ length names → MapsToPlaces places names → names ≡ all
    → r ≡ name_place all name
found_place places names all name count r h len places_are same =
    h
    ∙ ap₂ unwrap_or (places_are name) len
    ∙ place_found names name
    ∙ ap (λ ns. name_place ns name) same
