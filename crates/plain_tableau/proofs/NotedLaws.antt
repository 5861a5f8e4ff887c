-- Places that are listed for variables, and those that are looked at again.
use Rattle.std.specs.Prelude.{if◌then◌else◌, nat_eq}
use Rattle.std.proofs.Common.{◌≡◌, ◌≢◌, ◌<◌, ◌≤◌, ◌+◌, ◌||◌, ℕ, zero, suc, Bool, true, false, List, [], ◌∷◌, ◌++◌, length, get_or, set, take, Some, slice_get, Contains, refl, sym, ap, ◌∙◌, subst, inl, inr, ◌⊎◌, length-set, get_or-set_same, get_or-set_other, arith}
use Rattle.std.specs.List.{list_any, All}
use Rattle.std.proofs.lemmas.Bool.{or_cases, eqb-true, eqb-false}
use Rattle.std.proofs.lemmas.List.{get_or_default}
use Rattle.std.proofs.lemmas.Option.{get_or_from_slice_get}
use Rattle.std.proofs.lemmas.List.Elements.{Contains-append_left, Contains-append_right, Contains-push_cases}
use Rattle.std.proofs.lemmas.List.Folds.{list_any_more}
use Rattle.tableau_calculus.proofs.ListLaws.{contains-first}
use Rattle.sat_base.specs.declared.literal.Var.{Var}
use Rattle.sat_base.specs.declared.literal.SatLit.{SatLit}
use Rattle.sat_base.specs.Literal.{same_var, mentions_variable}
use Rattle.tableau_clauses.specs.Table.{Table}
use Rattle.plain_tableau.specs.declared.due.Due.{Due}
use Rattle.plain_tableau.specs.Internal.Due.{is_due_at, is_due_place, IsInside, ArePlacesOfUsed, IsNotedMore}

-- nothing more is listed
pub nothing_more : (ls : List (List ℕ)) (e : List ℕ) → e ≡ [] → ((v : ℕ) → get_or ls v [] ≡ []) → (v : ℕ) → get_or (ls ++ e ∷ []) v [] ≡ []
nothing_more [] e is none zero = is
nothing_more [] e is none (suc v) = refl
nothing_more (l ∷ ls) e is none zero = none zero
nothing_more (l ∷ ls) e is none (suc v) = nothing_more ls e is (λ w. none (suc w)) v

-- an element of a list is one of it
pub contains_at : {A : Type 0} (xs : List A) (k : ℕ) (d : A) → k < length xs → Contains xs (get_or xs k d)
contains_at xs k d h = (k, h, get_or_default xs k (get_or xs k d) d h)

module _ (mid : List (List ℕ)) (w : Var) (place : ℕ) (x y : List ℕ) (inside : w.0 < length mid) (is : x ≡ get_or mid w.0 x) (pushed : y ≡ x ++ place ∷ []) where
  was : x ≡ get_or mid w.0 []
  was = is ∙ get_or_default mid w.0 x [] inside

  here : get_or (set mid w.0 y) w.0 [] ≡ x ++ place ∷ []
  here = get_or-set_same mid w.0 y [] inside ∙ pushed

  -- what is listed after one more
  set_cases : (P : List ℕ → Type 0) (n : ℕ) → (n ≡ w.0 → P (x ++ place ∷ [])) → (n ≢ w.0 → P (get_or mid n [])) → P (get_or (set mid w.0 y) n [])
  set_cases P n same other = go (nat_eq n w.0) refl
    where
      go : (b : Bool) → nat_eq n w.0 ≡ b → P (get_or (set mid w.0 y) n [])
      go true e =
          let at : n ≡ w.0 = eqb-true n w.0 e in
          subst (λ k. P (get_or (set mid w.0 y) k [])) (sym at) (subst P (sym here) (same at))
      go false e =
          let at : n ≢ w.0 = eqb-false n w.0 e in
          subst P (sym (get_or-set_other mid w.0 n y [] at)) (other at)

  kept_more : (n u : ℕ) → Contains (get_or mid n []) u → Contains (get_or (set mid w.0 y) n []) u
  kept_more n u h = set_cases (λ xs. Contains xs u) n (λ at. Contains-append_left x (place ∷ []) u (subst (λ xs. Contains xs u) (ap (λ k. get_or mid k []) at ∙ sym was) h)) (λ at. h)

  only_more : (n u : ℕ) → Contains (get_or (set mid w.0 y) n []) u → Contains (get_or mid n []) u ⊎ (u ≡ place)
  only_more n u =
      set_cases (λ xs. Contains xs u → Contains (get_or mid n []) u ⊎ (u ≡ place)) n
      (λ at h. elim (Contains-push_cases x place u h) [ inl old ↦ inl (subst (λ xs. Contains xs u) (was ∙ ap (λ k. get_or mid k []) (sym at)) old) | inr new ↦ inr (sym new) ]) (λ at h. inl h)

  pub noted_more : (test : Var → Bool) (old : List (List ℕ)) → IsNotedMore test place old mid → IsNotedMore (λ v. test v || same_var v w) place old (set mid w.0 y)
  noted_more test old h = record {
    count = length-set mid w.0 y ∙ h.count;
    listed = λ v e. elim (or_cases (test v) (same_var v w) e) [
      | inl t ↦ kept_more v.0 place (h.listed v t)
      | inr s ↦ subst (λ n. Contains (get_or (set mid w.0 y) n []) place) (sym (eqb-true v.0 w.0 s)) (subst (λ xs. Contains xs place) (sym here) (Contains-append_right x (place ∷ []) place (contains-first place [])))
    ];
    kept = λ n u k. kept_more n u (h.kept n u k);
    only = λ n u k. elim (only_more n u k) [ inl old ↦ h.only n u old | inr new ↦ inr new ];
  }

pub noted_for : (p q : Var → Bool) (place : ℕ) (old new : List (List ℕ)) → ((v : Var) → q v ≡ true → p v ≡ true) → IsNotedMore p place old new → IsNotedMore q place old new
noted_for p q place old new f h = record { count = h.count; listed = λ v e. h.listed v (f v e); kept = h.kept; only = h.only }

pub noted_again : (p q : Var → Bool) (place : ℕ) (old mid new : List (List ℕ)) → IsNotedMore p place old mid → IsNotedMore q place mid new → IsNotedMore (λ v. p v || q v) place old new
noted_again p q place old mid new h k = record {
  count = k.count ∙ h.count;
  listed = λ v e. elim (or_cases (p v) (q v) e) [ inl t ↦ k.kept v.0 place (h.listed v t) | inr t ↦ k.listed v t ];
  kept = λ n u x. k.kept n u (h.kept n u x);
  only = λ n u x. elim (k.only n u x) [ inl old ↦ h.only n u old | inr new ↦ inr new ];
}

-- one literal more, and one list more
pub mentions_more : (ls : List SatLit) (i : ℕ) (d : SatLit) → i < length ls → (v : Var) → mentions_variable (take (i + 1) ls) v ≡ true → (mentions_variable (take i ls) v || same_var v (get_or ls i d).var) ≡ true
mentions_more ls i d h v e = sym (list_any_more (λ l. same_var v l.var) ls i d h) ∙ e

pub some_mention_more : (as' : List (List SatLit)) (i : ℕ) (a d : List SatLit) → i < length as' → a ≡ get_or as' i d → (v : Var) → list_any (λ c. mentions_variable c v) (take (i + 1) as') ≡ true → (list_any (λ c. mentions_variable c v) (take i as') || mentions_variable a v) ≡ true
some_mention_more as' i a d h is v e = ap (λ c. list_any (λ c. mentions_variable c v) (take i as') || mentions_variable c v) is ∙ sym (list_any_more (λ c. mentions_variable c v) as' i d h) ∙ e

module _ (t : Table) (used : List ℕ) (b : List SatLit) where
  -- what is known of places that were looked at, and of those that were right
  abbrev pub Knows : List ℕ → Due → Due → Type 0
  Knows places old now = (u k : ℕ) → slice_get used u ≡ Some k → (Contains places u) ⊎ (is_due_place old u ≡ is_due_at t b k) → is_due_place now u ≡ is_due_at t b k

  module _ (place : ℕ) (x : Bool) (now new : Due) (looked : x ≡ is_due_at t b (get_or used place 0)) (put : (u : ℕ) → is_due_place new u ≡ (if nat_eq place u then x else is_due_place now u)) where
    -- the place itself, and the others
    put_cases : (P : Bool → Type 0) (u : ℕ) → (place ≡ u → P x) → (place ≢ u → P (is_due_place now u)) → P (is_due_place new u)
    put_cases P u same other = go (nat_eq place u) refl
      where
        go : (c : Bool) → nat_eq place u ≡ c → P (is_due_place new u)
        go true e = subst P (sym (put u ∙ ap (λ c. if c then x else is_due_place now u) e)) (same (eqb-true place u e))
        go false e = subst P (sym (put u ∙ ap (λ c. if c then x else is_due_place now u) e)) (other (eqb-false place u e))

    here_right : (u k : ℕ) → slice_get used u ≡ Some k → place ≡ u → x ≡ is_due_at t b k
    here_right u k e same = looked ∙ ap (λ n. is_due_at t b (get_or used n 0)) same ∙ ap (is_due_at t b) (get_or_from_slice_get used u k 0 e)

    pub knows_more : (places : List ℕ) (old : Due) → Knows places old now → Knows (places ++ place ∷ []) old new
    knows_more places old h u k e either =
        put_cases (λ c. c ≡ is_due_at t b k) u (here_right u k e)
        (λ other. elim either [
          | inl there ↦ elim (Contains-push_cases places place u there) [ inl earlier ↦ h u k e (inl earlier) | inr same ↦ absurd (other same) ]
          | inr right ↦ h u k e (inr right)
        ])

    pub inside_more : place < length used → IsInside used now → IsInside used new
    inside_more h inside u = put_cases (λ c. c ≡ true → u < length used) u (λ same e. subst (λ n. n < length used) same h) (λ other e. inside u e)

    pub due_more : (n : ℕ) → place ≡ n → ((u k : ℕ) → u < n → slice_get used u ≡ Some k → is_due_place now u ≡ is_due_at t b k) → (u k : ℕ) → u < n + 1 → slice_get used u ≡ Some k → is_due_place new u ≡ is_due_at t b k
    due_more n same h u k below e = put_cases (λ c. c ≡ is_due_at t b k) u (here_right u k e) (λ other. h u k (omega (arith, below, same, other)) e)

    pub below_more : (n : ℕ) → place ≡ n → ((u : ℕ) → is_due_place now u ≡ true → u < n) → (u : ℕ) → is_due_place new u ≡ true → u < n + 1
    below_more n same h u = put_cases (λ c. c ≡ true → u < n + 1) u (λ here e. omega (arith, here, same)) (λ other e. omega (arith, h u e))

-- the places of one list are places
pub places_in : (used : List ℕ) (noted : List (List ℕ)) (v : ℕ) (x places : List ℕ) → ArePlacesOfUsed used noted → v < length noted → x ≡ get_or noted v x → places ≡ x → All (λ u. u < length used) places
places_in used noted v x places are inside is same k d h =
    let e : places ≡ get_or noted v [] = same ∙ is ∙ get_or_default noted v x [] inside in
    are v (get_or places k d) (subst (λ xs. Contains xs (get_or places k d)) e (contains_at places k d h))

pub listed_in : (noted : List (List ℕ)) (v : ℕ) (x places : List ℕ) → v < length noted → x ≡ get_or noted v x → places ≡ x → (u : ℕ) → Contains (get_or noted v []) u → Contains places u
listed_in noted v x places inside is same u h = subst (λ xs. Contains xs u) (sym (same ∙ is ∙ get_or_default noted v x [] inside)) h
