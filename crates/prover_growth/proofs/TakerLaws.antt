-- Witnesses by the base types that their types give.
use Rattle.std.specs.Prelude.{◌≡◌, ◌<◌, ◌+◌, nat_eq, nat_lt, ℕ, suc, Bool, true, false, List, [], ◌∷◌, ◌++◌, map, length, refl, if◌then◌else◌}
use Rattle.std.specs.List.{list_any}
use Rattle.std.proofs.Common.{sym, ap, subst, ◌∙◌, arith, append-nil, length-append}
use Rattle.std.proofs.lemmas.Bool.{eqb-true, eqb-false, eq-eqb, ne_eqb, lt-ltb, le-ltb}
use Rattle.std.proofs.lemmas.List.{length-map}
use Rattle.stt_core.specs.SimpleType.{SimpleType, base, target}
use Rattle.stt_core.proofs.ListLaws.{map-append}
use Rattle.tableau_calculus.specs.Witnesses.{Row}
use Rattle.instantiate.specs.Listing.{Listing, ids_of, with_listed}
use Rattle.tableau_calculus.specs.Each.{Each}
use Rattle.search_spec.specs.Heads.{places_to}
use Rattle.search_spec.specs.Witness.{same_row}
use Rattle.prover_growth.specs.Internal.Denials.{with_row}
use Rattle.prover_state.proofs.EachLaws.{each-weaker}
use Rattle.prover_state.proofs.FittingLaws.{places-append}
use Rattle.prover_state.proofs.NotingLaws.{listed-last}

turned : (m n : ℕ) → nat_eq n m ≡ nat_eq m n
turned m n = by_test (nat_eq n m) refl
  where
    by_test : (b : Bool) → nat_eq n m ≡ b → nat_eq n m ≡ nat_eq m n
    by_test true e = e ∙ sym (eq-eqb m n (sym (eqb-true n m e)))
    by_test false e = e ∙ sym (ne_eqb m n (λ k. eqb-false n m e (sym k)))

-- the places to a base type are those of types
places_within : (n k : ℕ) (types : List SimpleType) → Each (λ i. i < k + length types) (places_to n k types)
places_within n k [] = tt
places_within n k (a ∷ types) =
    go (nat_eq (target a) n) (each-weaker (λ i. i < suc k + length types) (λ i. i < k + length (a ∷ types)) (λ i h. omega (arith, h)) (places_to n (suc k) types) (places_within n (suc k) types))
  where
    go : (b : Bool) → Each (λ i. i < k + length (a ∷ types)) (places_to n (suc k) types) → Each (λ i. i < k + length (a ∷ types)) (if b then k ∷ places_to n (suc k) types else places_to n (suc k) types)
    go true rest = (omega arith, rest)
    go false rest = rest

module _ (takers new : List Listing) (rows : List Row) (right : (n : ℕ) → ids_of (base n) takers ≡ places_to n 0 (map (λ (x : Row). x.type) rows)) where
  abbrev types : List SimpleType
  types = map (λ (x : Row). x.type) rows

  below : (n : ℕ) → Each (λ i. i < length rows) (ids_of (base n) takers)
  below n =
      let count = length-map rows (λ (x : Row). x.type) in
      subst (Each (λ i. i < length rows)) (sym (right n))
      (each-weaker (λ i. i < 0 + length types) (λ i. i < length rows) (λ i h. omega (arith, h, count)) (places_to n 0 types) (places_within n 0 types))

  -- a witness more
  pub takers-more : (r : Row) → new ≡ with_listed (base (target r.type)) (length rows) takers → (n : ℕ) → ids_of (base n) new ≡ places_to n 0 (map (λ (x : Row). x.type) (rows ++ r ∷ []))
  takers-more r is n =
      listed-last (base n) (base (target r.type)) (length rows) takers new is (below (target r.type))
      ∙ ap (λ (b : Bool). if b then ids_of (base n) takers ++ length rows ∷ [] else ids_of (base n) takers) (turned (target r.type) n)
      ∙ ap (λ (ids : List ℕ). if nat_eq (target r.type) n then ids ++ length rows ∷ [] else ids) (right n)
      ∙ go (nat_eq (target r.type) n)
      ∙ sym (places-append n 0 types (r.type ∷ []))
      ∙ ap (places_to n 0) (sym (map-append (λ (x : Row). x.type) rows (r ∷ [])))
    where
      place : length rows ≡ 0 + length types
      place = let count = length-map rows (λ (x : Row). x.type) in omega (arith, count)

      go : (b : Bool) → (if b then places_to n 0 types ++ length rows ∷ [] else places_to n 0 types) ≡ places_to n 0 types ++ (if b then (0 + length types) ∷ [] else [])
      go true = ap (λ k. places_to n 0 types ++ k ∷ []) place
      go false = sym (append-nil (places_to n 0 types))

  -- the witness of a row, where it comes to the table
  pub takers-listed : (r : Row) (m : ℕ) (before now : ℕ) → m ≡ target r.type → before ≡ length rows → now ≡ length (with_row rows r) → new ≡ (if nat_lt before now then with_listed (base m) before takers else takers)
      → (n : ℕ) → ids_of (base n) new ≡ places_to n 0 (map (λ (x : Row). x.type) (with_row rows r))
  takers-listed r m before now to from after is n = by_test (list_any (same_row r) rows) refl
    where
      count : (b : Bool) → list_any (same_row r) rows ≡ b → now ≡ length (if b then rows else rows ++ r ∷ [])
      count b e = after ∙ ap (λ (x : Bool). length (if x then rows else rows ++ r ∷ [])) e

      by_test : (b : Bool) → list_any (same_row r) rows ≡ b → ids_of (base n) new ≡ places_to n 0 (map (λ (x : Row). x.type) (if list_any (same_row r) rows then rows else rows ++ r ∷ []))
      by_test true e =
          let same : now ≡ before = count true e ∙ sym from in
          ap (ids_of (base n)) (is ∙ ap (λ (x : Bool). if x then with_listed (base m) before takers else takers) (le-ltb before now (omega (arith, same))))
          ∙ right n
          ∙ ap (λ (x : Bool). places_to n 0 (map (λ (x : Row). x.type) (if x then rows else rows ++ r ∷ []))) (sym e)
      by_test false e =
          let one : now ≡ length (rows ++ r ∷ []) = count false e in
          let size = length-append rows (r ∷ []) in
          takers-more r (is ∙ ap (λ (x : Bool). if x then with_listed (base m) before takers else takers) (lt-ltb before now (omega (arith, one, size, from))) ∙ ap (λ k. with_listed (base k) before takers) to ∙ ap (λ k. with_listed (base (target r.type)) k takers) from) n
          ∙ ap (λ (x : Bool). places_to n 0 (map (λ (x : Row). x.type) (if x then rows else rows ++ r ∷ []))) (sym e)
