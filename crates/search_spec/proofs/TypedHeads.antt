-- The heads for a hole fit it.
use Rattle.std.specs.Prelude.{◌≡◌, ◌+◌, ◌<◌, ◌≤◌, ℕ, zero, suc, nat_eq, Bool, true, false, List, [], ◌∷◌, ◌++◌, map, filter, ◌||◌, Option, Some, None, slice_get, refl, if◌then◌else◌}
use Rattle.std.proofs.Common.{ap, ◌∙◌, subst, arith, eqb-true}
use Rattle.std.proofs.lemmas.Bool.{and_parts, lt-ltb}
use Rattle.stt_core.specs.SimpleType.{SimpleType, base, arrow, formula, predicate, is_declared, target}
use Rattle.stt_core.specs.Lambda.{name, witness, falsity, negation, implication, all, equality, choice, Lambda, bound, constant, lam, app}
use Rattle.stt_core.specs.Typing.{Scope, IsScope, AreDeclared}
use Rattle.stt_core.specs.Canonical.{IsFrom}
use Rattle.stt_core.proofs.TypeLaws.{get_declared, constant_declared}
use Rattle.tableau_calculus.specs.Each.{Each}
use Rattle.search_spec.specs.Partial.{Partial, hole, head, function, application, Hole, or_else, first_hole}
use Rattle.search_spec.specs.TypedPartial.{IsPartial, IsPartialSpine}
use Rattle.search_spec.specs.Heads.{HeadOffers, places_to, bases_from, is_offered, is_offered_base, offered_bases, given_heads, is_none_given, logical_heads, fitting_heads}
use Rattle.search_spec.specs.TypedState.{FitsHole}
use Rattle.search_spec.proofs.ClosedLaws.{both_true}
use Rattle.search_spec.proofs.NamingLaws.{each-joined}
use Rattle.search_spec.proofs.TypedPushes.{each_filtered, each_mapped}
use Rattle.search_spec.proofs.PartialLaws.{some_same, none_some}

places_fit : (P : ℕ → Type 0) (n k : ℕ) (types : List SimpleType) → ((i : ℕ) (a : SimpleType) → slice_get types i ≡ Some a → target a ≡ n → P (k + i)) → Each P (places_to n k types)
places_fit P n k [] f = tt
places_fit P n k (a ∷ types) f =
    by_test (nat_eq (target a) n) refl
    (places_fit P n (suc k) types (λ i b g e. let same : k + suc i ≡ suc k + i = omega arith in subst P same (f (suc i) b g e)))
  where
    by_test : (b : Bool) → nat_eq (target a) n ≡ b → Each P (places_to n (suc k) types) → Each P (if b then k ∷ places_to n (suc k) types else places_to n (suc k) types)
    by_test true e rest = (let same : k + 0 ≡ k = omega arith in subst P same (f 0 a refl (eqb-true (target a) n e)), rest)
    by_test false e rest = rest

module _ (scope : Scope) (good : IsScope scope) where
  base_declared : (k : ℕ) → k < scope.bases + 2 → is_declared scope.bases (base k) ≡ true
  base_declared k h = lt-ltb k (scope.bases + 2) h

  formula_declared : is_declared scope.bases formula ≡ true
  formula_declared = base_declared 0 (omega arith)

  bases_declared : (k n : ℕ) → k + n ≤ scope.bases + 2 → Each (λ c. is_declared scope.bases c ≡ true) (bases_from k n)
  bases_declared k zero h = tt
  bases_declared k (suc n) h = (base_declared k (omega (arith, h)), bases_declared (suc k) n (omega (arith, h)))

  function_declared : (a b : SimpleType) → is_declared scope.bases a ≡ true → is_declared scope.bases b ≡ true → is_declared scope.bases (arrow a b) ≡ true
  function_declared a b e f = both_true (is_declared scope.bases a) (is_declared scope.bases b) e f

  module _ (ctx : List SimpleType) where
    abbrev Fits : ℕ → Lambda → Type 0
    Fits n t = FitsHole scope (record { base = n; context = ctx }) t

    equality_fits : (c : SimpleType) → is_declared scope.bases c ≡ true → Fits 0 (constant (equality c))
    equality_fits c d = record {
      leaf = tt;
      type = arrow c (predicate c);
      has_type = ap (λ b. if b then Some (arrow c (predicate c)) else None) d;
      declared = function_declared c (predicate c) d (function_declared c formula d formula_declared);
      gives = refl;
    }

    quantifier_fits : (c : SimpleType) → is_declared scope.bases c ≡ true → Fits 0 (constant (all c))
    quantifier_fits c d = record {
      leaf = tt;
      type = arrow (predicate c) formula;
      has_type = ap (λ b. if b then Some (arrow (predicate c) formula) else None) d;
      declared = function_declared (predicate c) formula (function_declared c formula d formula_declared) formula_declared;
      gives = refl;
    }

    offered_declared : (offers : HeadOffers) → Each (λ c. is_declared scope.bases c ≡ true) (offered_bases offers scope)
    offered_declared offers =
        each_filtered (λ c. is_declared scope.bases c ≡ true) (λ c. is_declared scope.bases c ≡ true) (is_offered_base offers) (λ c h e. h) (bases_from 1 (scope.bases + 1)) (bases_declared 1 (scope.bases + 1) (omega arith))

    choice_fits : (n : ℕ) → is_declared scope.bases (base (suc n)) ≡ true → Fits (suc n) (constant (choice (base (suc n))))
    choice_fits n d = record {
      leaf = tt;
      type = arrow (predicate (base (suc n))) (base (suc n));
      has_type = ap (λ b. if b then Some (arrow (predicate (base (suc n))) (base (suc n))) else None) d;
      declared = function_declared (predicate (base (suc n))) (base (suc n)) (function_declared (base (suc n)) formula d formula_declared) d;
      gives = refl;
    }

    logical_fit : (offers : HeadOffers) (n : ℕ) (chooses : Bool) → is_declared scope.bases (base n) ≡ true → Each (Fits n) (logical_heads offers scope n chooses)
    logical_fit offers zero chooses d =
        each-joined (Fits 0) (constant falsity ∷ constant negation ∷ constant implication ∷ constant (equality formula) ∷ [] ++ map (λ c. constant (equality c)) (offered_bases offers scope)) (map (λ c. constant (all c)) (offered_bases offers scope))
        (each-joined (Fits 0) (constant falsity ∷ constant negation ∷ constant implication ∷ constant (equality formula) ∷ []) (map (λ c. constant (equality c)) (offered_bases offers scope)) (
          record { leaf = tt; type = formula; has_type = refl; declared = d; gives = refl },
          (
            record { leaf = tt; type = arrow formula formula; has_type = refl; declared = function_declared formula formula d d; gives = refl },
            (record { leaf = tt; type = arrow formula (arrow formula formula); has_type = refl; declared = function_declared formula (arrow formula formula) d (function_declared formula formula d d); gives = refl }, (equality_fits formula d, tt)),
          ),
        )
        (each_mapped (λ c. is_declared scope.bases c ≡ true) (Fits 0) (λ c. constant (equality c)) equality_fits (offered_bases offers scope) (offered_declared offers)))
        (each_mapped (λ c. is_declared scope.bases c ≡ true) (Fits 0) (λ c. constant (all c)) quantifier_fits (offered_bases offers scope) (offered_declared offers))
    logical_fit offers (suc n) false d = tt
    logical_fit offers (suc n) true d = (choice_fits n d, tt)

    listed_fit : (n : ℕ) (types : List SimpleType) (make : ℕ → Lambda) → ((i : ℕ) (a : SimpleType) → slice_get types i ≡ Some a → target a ≡ n → Fits n (make i)) → Each (Fits n) (map make (places_to n 0 types))
    listed_fit n types make f =
        each_mapped (λ j. Fits n (make j)) (Fits n) make (λ j h. h) (places_to n 0 types)
        (places_fit (λ j. Fits n (make j)) n 0 types (λ i a g e. let P : ℕ → Type 0 = λ j. Fits n (make j) in let same : i ≡ 0 + i = omega arith in subst P same (f i a g e)))

    offered_fit : (n : ℕ) (types : List SimpleType) (flags : List Bool) (make : ℕ → Lambda) → ((i : ℕ) (a : SimpleType) → slice_get types i ≡ Some a → target a ≡ n → Fits n (make i)) → Each (Fits n) (map make (filter (is_offered flags) (places_to n 0 types)))
    offered_fit n types flags make f =
        each_mapped (λ j. Fits n (make j)) (Fits n) make (λ j h. h) (filter (is_offered flags) (places_to n 0 types))
        (each_filtered (λ j. Fits n (make j)) (λ j. Fits n (make j)) (is_offered flags) (λ j h e. h) (places_to n 0 types)
        (places_fit (λ j. Fits n (make j)) n 0 types (λ i a g e. let P : ℕ → Type 0 = λ j. Fits n (make j) in let same : i ≡ 0 + i = omega arith in subst P same (f i a g e))))

    given_fit : (offers : HeadOffers) (n : ℕ) → AreDeclared scope.bases ctx → Each (Fits n) (given_heads offers scope (record { base = n; context = ctx }))
    given_fit offers n c =
        each-joined (Fits n) _ (map (λ k. constant (witness k)) (places_to n 0 scope.witnesses))
        (each-joined (Fits n) (map bound (places_to n 0 ctx)) (map (λ k. constant (name k)) (filter (is_offered offers.names) (places_to n 0 scope.names)))
        (listed_fit n ctx bound (λ i a g e. record { leaf = tt; type = a; has_type = g; declared = get_declared scope.bases ctx i a c g; gives = e }))
        (offered_fit n scope.names offers.names (λ k. constant (name k)) (λ i a g e. record { leaf = tt; type = a; has_type = g; declared = constant_declared scope good (name i) a g; gives = e })))
        (listed_fit n scope.witnesses (λ k. constant (witness k)) (λ i a g e. record { leaf = tt; type = a; has_type = g; declared = constant_declared scope good (witness i) a g; gives = e }))

    pub heads_fit : (offers : HeadOffers) (n : ℕ) → AreDeclared scope.bases ctx → is_declared scope.bases (base n) ≡ true → Each (Fits n) (fitting_heads offers scope (record { base = n; context = ctx }))
    heads_fit offers n c d =
        let given = given_heads offers scope (record { base = n; context = ctx }) in
        let chooses = offers.choices || is_none_given given in
        each-joined (Fits n) given (logical_heads offers scope n chooses) (given_fit offers n c) (logical_fit offers n chooses d)

  -- the type of a head with arguments is declared
  spine_declared : (ctx : List SimpleType) (a : SimpleType) (p : Partial) → AreDeclared scope.bases ctx → IsPartialSpine scope ctx a p → is_declared scope.bases a ≡ true
  spine_declared ctx a (hole n) c h = absurd h
  spine_declared ctx a (head (bound k)) c h = get_declared scope.bases ctx k a c h.1
  spine_declared ctx a (head (constant d)) c h = constant_declared scope good d a h.1
  spine_declared ctx a (head (lam b s)) c h = absurd h.0
  spine_declared ctx a (head (app s u)) c h = absurd h.0
  spine_declared ctx a (function b p) c h = absurd h
  spine_declared ctx a (application p q) c h = (and_parts _ _ (spine_declared ctx (arrow h.0 a) p c h.1)).1

  -- what is declared where a hole is
  pub record DeclaredAt (h : Hole) : Type 0 where
    pub context : AreDeclared scope.bases h.context
    pub type : is_declared scope.bases (base h.base) ≡ true

  either_hole : (ctx : List SimpleType) (p q : Partial) (h : Hole) (o : Option Hole) → first_hole ctx p ≡ o → or_else o (first_hole ctx q) ≡ Some h → (first_hole ctx p ≡ Some h → DeclaredAt h) → (first_hole ctx q ≡ Some h → DeclaredAt h) → DeclaredAt h
  either_hole ctx p q h (Some g) f e left right = left (f ∙ e)
  either_hole ctx p q h None f e left right = right e

  binder_declared : (a c : SimpleType) (Q : SimpleType → Type 0) (R : Type 0) → is_declared scope.bases a ≡ true → IsFrom c a Q → ((b : SimpleType) → is_declared scope.bases b ≡ true → Q b → R) → R
  binder_declared (base n) c Q R d f g = absurd f
  binder_declared (arrow x b) c Q R d f g = g b (and_parts _ _ d).1 f.1

  mutual
    pub declared_at : (ctx : List SimpleType) (a : SimpleType) (p : Partial) (h : Hole) → AreDeclared scope.bases ctx → is_declared scope.bases a ≡ true → IsPartial scope ctx a p → first_hole ctx p ≡ Some h → DeclaredAt h
    declared_at ctx a (hole n) h c d t e =
        let D : SimpleType → Type 0 = λ b. is_declared scope.bases b ≡ true in
        subst DeclaredAt (some_same _ _ e) (record { context = c; type = subst D t d })
    declared_at ctx a (head l) h c d t e = absurd (none_some h e)
    declared_at ctx a (function b p) h c d t e =
        binder_declared a b (λ x. IsPartial scope (b ∷ ctx) x p) (DeclaredAt h) d t.1 (λ x dx u. declared_at (b ∷ ctx) x p h (t.0, c) dx u e)
    declared_at ctx a (application p q) h c d t e =
        let s = spine_declared ctx (arrow t.1.0 a) p c t.1.1 in
        either_hole ctx p q h (first_hole ctx p) refl e
        (λ f. declared_at_spine ctx (arrow t.1.0 a) p h c t.1.1 f)
        (λ f. declared_at ctx t.1.0 q h c (and_parts _ _ s).0 t.1.2 f)

    declared_at_spine : (ctx : List SimpleType) (a : SimpleType) (p : Partial) (h : Hole) → AreDeclared scope.bases ctx → IsPartialSpine scope ctx a p → first_hole ctx p ≡ Some h → DeclaredAt h
    declared_at_spine ctx a (hole n) h c t e = absurd t
    declared_at_spine ctx a (head l) h c t e = absurd (none_some h e)
    declared_at_spine ctx a (function b p) h c t e = absurd t
    declared_at_spine ctx a (application p q) h c t e =
        let s = spine_declared ctx (arrow t.0 a) p c t.1 in
        either_hole ctx p q h (first_hole ctx p) refl e
        (λ f. declared_at_spine ctx (arrow t.0 a) p h c t.1 f)
        (λ f. declared_at ctx t.0 q h c (and_parts _ _ s).0 t.2 f)
