-- The first terms of base types.
use Rattle.std.specs.Prelude.{◌≡◌, ◌<◌, ◌≤◌, ◌+◌, ◌||◌, ℕ, zero, suc, Bool, true, false, All, List, [], ◌∷◌, map, filter, drop, length, slice_get, Some, None, refl, if◌then◌else◌}
use Rattle.std.specs.List.{list_any}
use Rattle.std.proofs.Common.{sym, ap, ap₂, subst, ◌∙◌, arith}
use Rattle.std.proofs.Math.ListN.{drop_of_length-le}
use Rattle.stt_core.specs.SimpleType.{SimpleType, base, arrow, formula, predicate, is_declared, same_type}
use Rattle.stt_core.specs.Lambda.{falsity, choice, Lambda, constant, lam, app, neg}
use Rattle.stt_core.specs.Typing.{Scope}
use Rattle.stt_core.proofs.ListLaws.{drop_got}
use Rattle.term_bank.specs.Content.{Content, HasTerm, Grows}
use Rattle.term_bank.specs.Terms.{term_at, IsTypedTerm}
use Rattle.term_bank.proofs.GrowLaws.{grown_term, has_at, has_within}
use Rattle.instantiate.specs.Listing.{Listing, ids_of}
use Rattle.tableau_calculus.specs.Each.{Each}
use Rattle.mode_file.specs.declared.Mode.{Mode}
use Rattle.search_spec.specs.State.{State, Typed}
use Rattle.search_spec.specs.Terms.{first_terms, with_term, with_terms}
use Rattle.prover_state.specs.Internal.Names.{typed_at, IsPlace}
use Rattle.prover_state.proofs.EachLaws.{All-from_each}

-- TYPES

module _ (scope : Scope) where
  pub falsity-typed : IsTypedTerm scope (constant falsity)
  falsity-typed = record { ctx = []; type = formula; canonical = (tt, refl) }

  module _ (b : Content) (id : ℕ) where
    pub negated-typed : HasTerm b id (constant falsity) → IsTypedTerm scope (neg (term_at b.terms id))
    negated-typed h = subst (λ t. IsTypedTerm scope (neg t)) (sym (has_at b id (constant falsity) h)) (record { ctx = []; type = formula; canonical = (tt, (formula, refl, (tt, refl))) })

    pub function-typed : (a : SimpleType) → is_declared scope.bases a ≡ true → HasTerm b id (constant falsity) → IsTypedTerm scope (lam a (term_at b.terms id))
    function-typed a d h = subst (λ t. IsTypedTerm scope (lam a t)) (sym (has_at b id (constant falsity) h)) (record { ctx = []; type = predicate a; canonical = (d, (refl, (tt, refl))) })

    pub choice-typed : (n : ℕ) → is_declared scope.bases (base n) ≡ true → HasTerm b id (lam (base n) (constant falsity)) → IsTypedTerm scope (app (constant (choice (base n))) (term_at b.terms id))
    choice-typed n d h =
        subst (λ t. IsTypedTerm scope (app (constant (choice (base n))) t)) (sym (has_at b id (lam (base n) (constant falsity)) h))
        (record { ctx = []; type = base n; canonical = (tt, (predicate (base n), ap (λ (x : Bool). if x then Some (arrow (predicate (base n)) (base n)) else None) d, (d, (refl, (tt, refl))))) })

-- THE FIRST TERMS

pub one-place : (b : Content) (id : ℕ) (t : Lambda) → HasTerm b id t → All (IsPlace b.terms) (id ∷ [])
one-place b id t h = All-from_each (IsPlace b.terms) (id ∷ []) (has_within b id t h, tt)

pub first-formulas : (a b : Content) (i j : ℕ) (ids : List ℕ) → Grows a b → HasTerm a i (constant falsity) → HasTerm b j (neg (constant falsity)) → ids ≡ i ∷ j ∷ [] → map (term_at b.terms) ids ≡ first_terms (base 0)
first-formulas a b i j ids g h k e =
    ap (map (term_at b.terms)) e
    ∙ ap₂ (λ s t. s ∷ t ∷ []) (has_at b i (constant falsity) (grown_term a b i (constant falsity) g h)) (has_at b j (neg (constant falsity)) k)

pub formula-places : (a b : Content) (i j : ℕ) (ids : List ℕ) → Grows a b → HasTerm a i (constant falsity) → HasTerm b j (neg (constant falsity)) → ids ≡ i ∷ j ∷ [] → Each (IsPlace b.terms) ids
formula-places a b i j ids g h k e =
    subst (Each (IsPlace b.terms)) (sym e)
    (has_within b i (constant falsity) (grown_term a b i (constant falsity) g h), (has_within b j (neg (constant falsity)) k, tt))

-- what the empty predicate chooses
abbrev pub chosen_by_none : SimpleType → Lambda
chosen_by_none a = app (constant (choice a)) (lam a (constant falsity))

first_other : (n : ℕ) → 0 < n → first_terms (base n) ≡ chosen_by_none (base n) ∷ []
first_other zero h = absurd (omega (arith, h))
first_other (suc n) h = refl

pub first-values : (b : Content) (n i : ℕ) (ids : List ℕ) → 0 < n → HasTerm b i (chosen_by_none (base n)) → ids ≡ i ∷ [] → map (term_at b.terms) ids ≡ first_terms (base n)
first-values b n i ids h k e = ap (map (term_at b.terms)) e ∙ ap (λ t. t ∷ []) (has_at b i (chosen_by_none (base n)) k) ∙ sym (first_other n h)

pub value-places : (b : Content) (i : ℕ) (ids : List ℕ) (t : Lambda) → HasTerm b i t → ids ≡ i ∷ [] → Each (IsPlace b.terms) ids
value-places b i ids t k e = subst (Each (IsPlace b.terms)) (sym e) (has_within b i t k, tt)

-- TERMS ONE AFTER THE OTHER

-- one term more is added
module _ (mode : Mode) (a : SimpleType) (d : ℕ → Lambda) (ids : List ℕ) (i id : ℕ) (at : slice_get ids i ≡ Some id) (goal : State) where
  pub terms-more : (s s' : State) (mode' : Mode) (u : Lambda) → mode' ≡ mode → u ≡ d id → s' ≡ with_term mode' a u s → with_terms mode a (map d (drop i ids)) s ≡ goal → with_terms mode a (map d (drop (i + 1) ids)) s' ≡ goal
  terms-more s s' mode' u m k is h =
      ap (with_terms mode a (map d (drop (i + 1) ids))) (is ∙ ap (λ (x : Mode). with_term x a u s) m ∙ ap (λ (x : Lambda). with_term mode a x s) k)
      ∙ sym (ap (λ xs. with_terms mode a (map d xs) s) (drop_got ids i id at))
      ∙ h

-- all are added
pub terms-all : (mode : Mode) (a : SimpleType) (d : ℕ → Lambda) (ids : List ℕ) (i : ℕ) → length ids ≤ i → (s goal : State) → with_terms mode a (map d (drop i ids)) s ≡ goal → s ≡ goal
terms-all mode a d ids i h s goal e = sym (ap (λ xs. with_terms mode a (map d xs) s) (drop_of_length-le ids h)) ∙ e

-- WHERE A TYPE HAS TERMS

pub some_listed : (terms : List Lambda) (a : SimpleType) (listed : List Listing) → 0 < length (ids_of a listed) → list_any (λ (u : Typed). same_type a u.type) (map (typed_at terms) listed) ≡ true
some_listed terms a [] h = absurd (omega (arith, h))
some_listed terms a (l ∷ listed) h = go (same_type a l.0) h (some_listed terms a listed)
  where
    go : (b : Bool) → 0 < length (map (λ (x : Listing). x.1) (if b then l ∷ filter (λ x. same_type a x.0) listed else filter (λ x. same_type a x.0) listed))
        → (0 < length (ids_of a listed) → list_any (λ (u : Typed). same_type a u.type) (map (typed_at terms) listed) ≡ true) → (b || list_any (λ (u : Typed). same_type a u.type) (map (typed_at terms) listed)) ≡ true
    go true k rest = refl
    go false k rest = rest k

pub none_listed : (terms : List Lambda) (a : SimpleType) (listed : List Listing) → length (ids_of a listed) ≤ 0 → list_any (λ (u : Typed). same_type a u.type) (map (typed_at terms) listed) ≡ false
none_listed terms a [] h = refl
none_listed terms a (l ∷ listed) h = go (same_type a l.0) h (none_listed terms a listed)
  where
    go : (b : Bool) → length (map (λ (x : Listing). x.1) (if b then l ∷ filter (λ x. same_type a x.0) listed else filter (λ x. same_type a x.0) listed)) ≤ 0
        → (length (ids_of a listed) ≤ 0 → list_any (λ (u : Typed). same_type a u.type) (map (typed_at terms) listed) ≡ false) → (b || list_any (λ (u : Typed). same_type a u.type) (map (typed_at terms) listed)) ≡ false
    go true k rest = absurd (omega (arith, k))
    go false k rest = rest k
