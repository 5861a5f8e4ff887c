-- Terms by their places.
use Rattle.std.specs.Prelude.{◌≡◌, ◌<◌, ◌+◌, nat_eq, ℕ, suc, Bool, true, false, List, [], ◌∷◌, ◌++◌, map, filter, length, get_or, refl, if◌then◌else◌}
use Rattle.std.specs.List.{list_any}
use Rattle.std.proofs.Common.{sym, ap, ap₂, ◌∙◌, arith, append_assoc, length-append}
use Rattle.std.proofs.lemmas.Bool.{ne_eqb, eq-eqb}
use Rattle.stt_core.specs.SimpleType.{SimpleType, same_type}
use Rattle.stt_core.specs.Lambda.{Lambda}
use Rattle.stt_core.specs.SameTerm.{same_term}
use Rattle.stt_core.proofs.SameTerms.{same_term-true, same_term-of}
use Rattle.tableau_calculus.specs.Each.{Each}
use Rattle.search_spec.specs.State.{Typed}
use Rattle.search_spec.proofs.NamingLaws.{either}
use Rattle.term_bank.specs.Content.{Content}
use Rattle.term_bank.specs.Laws.{EqualIdsForEqualTerms}
use Rattle.term_bank.specs.Terms.{term_at}
use Rattle.instantiate.specs.Listing.{Listing, ids_of}
use Rattle.prover_state.specs.Internal.Names.{typed_at, IsPlace}
use Rattle.prover_state.specs.Internal.Standing.{places_where}
use Rattle.prover_state.proofs.EachLaws.{each-weaker}

-- whether two places have the same term
pub same-places : (b : Content) → EqualIdsForEqualTerms b → (i j : ℕ) → IsPlace b.terms i → IsPlace b.terms j → same_term (term_at b.terms i) (term_at b.terms j) ≡ nat_eq i j
same-places b equal i j h k = by_test (same_term (term_at b.terms i) (term_at b.terms j)) refl
  where
    by_test : (x : Bool) → same_term (term_at b.terms i) (term_at b.terms j) ≡ x → x ≡ nat_eq i j
    by_test true e = sym (eq-eqb i j ((equal i j h k).1 (same_term-true (term_at b.terms i) (term_at b.terms j) e)))
    by_test false e = sym (ne_eqb i j (λ q. other (same_term-of (term_at b.terms i) (term_at b.terms j) (ap (term_at b.terms) q)) e))
      where
        other : same_term (term_at b.terms i) (term_at b.terms j) ≡ true → same_term (term_at b.terms i) (term_at b.terms j) ≡ false → ⊥
        other f g = cc

-- whether a term is among those of some places
pub any-places : (b : Content) → EqualIdsForEqualTerms b → (id : ℕ) (ids : List ℕ) → IsPlace b.terms id → Each (IsPlace b.terms) ids → list_any (same_term (term_at b.terms id)) (map (term_at b.terms) ids) ≡ list_any (nat_eq id) ids
any-places b equal id [] h k = refl
any-places b equal id (i ∷ ids) h k = either (same-places b equal id i h k.0) (any-places b equal id ids h k.1)

-- a test of what elements are mapped to
pub filter-mapped : {X Y : Type 0} (test : Y → Bool) (f : X → Y) (xs : List X) → filter test (map f xs) ≡ map f (filter (λ x. test (f x)) xs)
filter-mapped test f [] = refl
filter-mapped {X} {Y} test f (x ∷ xs) = go (test (f x)) (filter-mapped test f xs)
  where
    go : (b : Bool) → filter test (map f xs) ≡ map f (filter (λ y. test (f y)) xs) → (if b then f x ∷ filter test (map f xs) else filter test (map f xs)) ≡ map f (if b then x ∷ filter (λ y. test (f y)) xs else filter (λ y. test (f y)) xs)
    go true e = ap (λ ys. f x ∷ ys) e
    go false e = e

pub map-mapped : {X Y Z : Type 0} (g : Y → Z) (f : X → Y) (xs : List X) → map g (map f xs) ≡ map (λ x. g (f x)) xs
map-mapped g f [] = refl
map-mapped g f (x ∷ xs) = ap (λ ys. g (f x) ∷ ys) (map-mapped g f xs)

-- the terms of a type by their places
pub terms-of : (terms : List Lambda) (a : SimpleType) (listed : List Listing) → map (λ (u : Typed). u.term) (filter (λ (u : Typed). same_type a u.type) (map (typed_at terms) listed)) ≡ map (term_at terms) (ids_of a listed)
terms-of terms a listed =
    ap (map (λ (u : Typed). u.term)) (filter-mapped (λ (u : Typed). same_type a u.type) (typed_at terms) listed)
    ∙ map-mapped (λ (u : Typed). u.term) (typed_at terms) (filter (λ l. same_type a l.0) listed)
    ∙ sym (map-mapped (term_at terms) (λ (l : Listing). l.1) (filter (λ l. same_type a l.0) listed))

-- the elements that pass a test pass it
pub each-passes : {X : Type 0} (P : X → Type 0) (test : X → Bool) (xs : List X) → Each P xs → Each (λ x. P x × (test x ≡ true)) (filter test xs)
each-passes P test [] h = tt
each-passes {X} P test (x ∷ xs) h = go (test x) refl (each-passes P test xs h.1)
  where
    go : (b : Bool) → test x ≡ b → Each (λ y. P y × (test y ≡ true)) (filter test xs) → Each (λ y. P y × (test y ≡ true)) (if b then x ∷ filter test xs else filter test xs)
    go true e rest = ((h.0, e), rest)
    go false e rest = rest

-- the places of the terms of a type
pub places-of : (terms : List Lambda) (a : SimpleType) (listed : List Listing) → Each (λ u. IsPlace terms u.1) listed → Each (IsPlace terms) (ids_of a listed)
places-of terms a [] h = tt
places-of terms a (l ∷ listed) h = go (same_type a l.0) (places-of terms a listed h.1)
  where
    go : (b : Bool) → Each (IsPlace terms) (ids_of a listed) → Each (IsPlace terms) (map (λ (x : Listing). x.1) (if b then l ∷ filter (λ x. same_type a x.0) listed else filter (λ x. same_type a x.0) listed))
    go true rest = (h.0, rest)
    go false rest = rest

-- what stands behind other elements
pub at-end : {X : Type 0} (es : List X) (x : X) (xs : List X) (d : X) → get_or (es ++ x ∷ xs) (length es) d ≡ x
at-end [] x xs d = refl
at-end (e ∷ es) x xs d = at-end es x xs d

-- The elements that pass a test are those at its places.
pub filter-places : {X : Type 0} (test : X → Bool) (d : X) (es xs : List X) → filter test xs ≡ map (λ i. get_or (es ++ xs) i d) (places_where test (length es) xs)
filter-places test d es [] = refl
filter-places {X} test d es (x ∷ xs) =
    go (test x)
    (filter-places test d (es ++ x ∷ []) xs
    ∙ ap₂ (λ (ys : List X) n. map (λ i. get_or ys i d) (places_where test n xs)) (append_assoc es (x ∷ []) xs) (let n = length-append es (x ∷ []) in omega (arith, n)))
  where
    go : (b : Bool) → filter test xs ≡ map (λ i. get_or (es ++ x ∷ xs) i d) (places_where test (suc (length es)) xs)
        → (if b then x ∷ filter test xs else filter test xs) ≡ map (λ i. get_or (es ++ x ∷ xs) i d) (if b then length es ∷ places_where test (suc (length es)) xs else places_where test (suc (length es)) xs)
    go true e = ap₂ (λ y ys. y ∷ ys) (sym (at-end es x xs d)) e
    go false e = e

-- the places are those of elements
pub places-within : {X : Type 0} (test : X → Bool) (n : ℕ) (xs : List X) → Each (λ i. i < n + length xs) (places_where test n xs)
places-within test n [] = tt
places-within {X} test n (x ∷ xs) =
    go (test x) (each-weaker (λ i. i < suc n + length xs) (λ i. i < n + length (x ∷ xs)) (λ i h. omega (arith, h)) (places_where test (suc n) xs) (places-within test (suc n) xs))
  where
    go : (b : Bool) → Each (λ i. i < n + length (x ∷ xs)) (places_where test (suc n) xs) → Each (λ i. i < n + length (x ∷ xs)) (if b then n ∷ places_where test (suc n) xs else places_where test (suc n) xs)
    go true rest = (omega arith, rest)
    go false rest = rest

pub places-below : {X : Type 0} (test : X → Bool) (xs : List X) → Each (λ i. i < length xs) (places_where test 0 xs)
places-below test xs = each-weaker (λ i. i < 0 + length xs) (λ i. i < length xs) (λ i h. omega (arith, h)) (places_where test 0 xs) (places-within test 0 xs)
