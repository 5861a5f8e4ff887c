-- Functions at new variables, quantified formulas, and what is chosen and described.
use Rattle.std.proofs.Common.{◌≡◌, ℕ, ◌-◌, ◌^◌, ◌<◌, List, [], ◌∷◌, Some, None, refl, ap, ap₂, subst, sym, ◌∙◌, true, nat_eq, eq-eqb, if◌then◌else◌, arith, mod-eq_of_lt, mod-lt, ◌/◌}
use Rattle.std.proofs.lemmas.Bool.{and_parts}
use Rattle.stt_core.specs.SimpleType.{SimpleType, arrow, formula, predicate, is_declared}
use Rattle.stt_core.specs.Lambda.{choice, description, Lambda, bound, constant, lam, app, neg, imp, eq, every}
use Rattle.stt_core.specs.Typing.{Scope, type_of, constant_type}
use Rattle.stt_core.specs.Canonical.{IsCanonical}
use Rattle.stt_core.specs.Digits.{entry}
use Rattle.stt_core.specs.Meaning.{Model, size, value, Fits, all_ones, IsModel}
use Rattle.stt_core.proofs.DigitLaws.{entry-table, table-entry, table_same}
use Rattle.stt_core.proofs.TypeLaws.{type_of-canonical, given}
use Rattle.stt_core.proofs.ValueLaws.{size_pos, value-lt, value-lam, value-app}
use Rattle.stt_core.proofs.ConstantValues.{value-neg, value-imp, value-eq, value-every, ones_each, some_zero, each_one}
use Rattle.stt_core.specs.Lift.{lift}
use Rattle.normal_forms.specs.Normal.{eta, apply}
use Rattle.stt_core.proofs.LiftLaws.{value-lift}
use Rattle.normal_forms.proofs.CanonicalLaws.{canonical-apply, canonical-lift}
use Rattle.normal_forms.proofs.NormalValues.{canonical-eta, value-eta, value-apply}
use Rattle.tableau_calculus.specs.Rules.{at_new, agreement, nowhere, chosen, at_outer, at_inner, at_most_once, described}
use Rattle.tableau_calculus.proofs.EquationLaws.{Sides, canonical-eq, test, test_one}
use Rattle.stt_core.proofs.ChoiceLaws.{chooses, describes}

-- the type of a canonical predicate's argument is declared
pub predicate_declared : (scope : Scope) (a : SimpleType) (f : Lambda) → IsCanonical scope [] (predicate a) f → is_declared scope.bases a ≡ true
predicate_declared scope a (bound k) h = absurd h.0
predicate_declared scope a (constant c) h = absurd h.0
predicate_declared scope a (app s u) h = absurd h.0
predicate_declared scope a (lam c s) h = subst (λ x. is_declared scope.bases x ≡ true) (sym h.1.0) h.0

-- that two new variables are the same, and that they are where a predicate holds of both
abbrev same_new : SimpleType → Lambda
same_new a = eq a (eta a (bound 1)) (eta a (bound 0))

abbrev both_same : SimpleType → Lambda → Lambda
both_same a f = imp (at_outer a f) (imp (at_inner a f) (same_new a))

module _ (scope : Scope) where
  pub every_canonical : (a : SimpleType) (f : Lambda) → IsCanonical scope [] formula (every a f) → (is_declared scope.bases a ≡ true) × IsCanonical scope [] (predicate a) f
  every_canonical a f h =
      let g = given scope a (arrow (predicate a) formula) (arrow h.1.0 formula) h.1.1 in
      let is = g.is in
      let p : h.1.0 ≡ predicate a = cc in
      (g.declared, subst (λ c. IsCanonical scope [] c f) p h.1.2)

  pub canonical-every : (ctx : List SimpleType) (a : SimpleType) (f : Lambda) → is_declared scope.bases a ≡ true → IsCanonical scope ctx (predicate a) f → IsCanonical scope ctx formula (every a f)
  canonical-every ctx a f d h = (tt, (predicate a, ap (λ b. if b then Some (arrow (predicate a) formula) else None) d, h))

  pub canonical-at_new : (ctx : List SimpleType) (a b : SimpleType) (f : Lambda) → is_declared scope.bases a ≡ true → IsCanonical scope ctx (arrow a b) f → IsCanonical scope (a ∷ ctx) b (at_new a f)
  canonical-at_new ctx a b f d h = canonical-apply scope (a ∷ ctx) a b (lift 0 f) (eta a (bound 0)) (canonical-lift scope [] a ctx (arrow a b) f h) (canonical-eta scope (a ∷ ctx) a (bound 0) d refl)

  -- functions at a new variable
  sides-at_new : (a b : SimpleType) (s t : Lambda) → Sides scope [] (arrow a b) s t → Sides scope (a ∷ []) b (at_new a s) (at_new a t)
  sides-at_new a b s t e =
      let d = and_parts _ _ e.declared in
      record { declared = d.1; left = canonical-at_new [] a b s d.0 e.left; right = canonical-at_new [] a b t d.0 e.right }

  canonical-agreeing : (a b : SimpleType) (s t : Lambda) → Sides scope [] (arrow a b) s t → IsCanonical scope [] (predicate a) (lam a (eq b (at_new a s) (at_new a t)))
  canonical-agreeing a b s t e = ((and_parts _ _ e.declared).0, (refl, canonical-eq scope b (at_new a s) (at_new a t) (a ∷ []) (sides-at_new a b s t e)))

  pub canonical-agreement : (a b : SimpleType) (s t : Lambda) → Sides scope [] (arrow a b) s t → IsCanonical scope [] formula (agreement a b s t)
  canonical-agreement a b s t e = canonical-every [] a (lam a (eq b (at_new a s) (at_new a t))) (and_parts _ _ e.declared).0 (canonical-agreeing a b s t e)

  canonical-denied : (a : SimpleType) (f : Lambda) → IsCanonical scope [] (predicate a) f → IsCanonical scope [] (predicate a) (lam a (neg (at_new a f)))
  canonical-denied a f h =
      let d = predicate_declared scope a f h in
      (d, (refl, (tt, (formula, refl, canonical-at_new [] a formula f d h))))

  pub canonical-nowhere : (a : SimpleType) (f : Lambda) → IsCanonical scope [] (predicate a) f → IsCanonical scope [] formula (nowhere a f)
  canonical-nowhere a f h = canonical-every [] a (lam a (neg (at_new a f))) (predicate_declared scope a f h) (canonical-denied a f h)

  pub canonical-chosen : (a : SimpleType) (f : Lambda) → IsCanonical scope [] (predicate a) f → IsCanonical scope [] a (chosen a f)
  canonical-chosen a f h =
      let d = predicate_declared scope a f h in
      canonical-eta scope [] a (app (constant (choice a)) f) d (predicate a, ap (λ b. if b then Some (arrow (predicate a) a) else None) d, h)

  canonical-imp : (ctx : List SimpleType) (s t : Lambda) → IsCanonical scope ctx formula s → IsCanonical scope ctx formula t → IsCanonical scope ctx formula (imp s t)
  canonical-imp ctx s t h k = (tt, (formula, (formula, refl, h), k))

  canonical-outer : (a : SimpleType) (f : Lambda) → IsCanonical scope [] (predicate a) f → IsCanonical scope (a ∷ a ∷ []) formula (at_outer a f)
  canonical-outer a f h = canonical-lift scope [] a (a ∷ []) formula (at_new a f) (canonical-at_new [] a formula f (predicate_declared scope a f h) h)

  canonical-inner : (a : SimpleType) (f : Lambda) → IsCanonical scope [] (predicate a) f → IsCanonical scope (a ∷ a ∷ []) formula (at_inner a f)
  canonical-inner a f h = canonical-at_new (a ∷ []) a formula (lift 0 f) (predicate_declared scope a f h) (canonical-lift scope [] a [] (predicate a) f h)

  sides-new : (a : SimpleType) → is_declared scope.bases a ≡ true → Sides scope (a ∷ a ∷ []) a (eta a (bound 1)) (eta a (bound 0))
  sides-new a d = record { declared = d; left = canonical-eta scope (a ∷ a ∷ []) a (bound 1) d refl; right = canonical-eta scope (a ∷ a ∷ []) a (bound 0) d refl }

  canonical-inner_same : (a : SimpleType) (f : Lambda) → IsCanonical scope [] (predicate a) f → IsCanonical scope (a ∷ a ∷ []) formula (imp (at_inner a f) (same_new a))
  canonical-inner_same a f h =
      canonical-imp (a ∷ a ∷ []) (at_inner a f) (same_new a) (canonical-inner a f h) (canonical-eq scope a (eta a (bound 1)) (eta a (bound 0)) (a ∷ a ∷ []) (sides-new a (predicate_declared scope a f h)))

  canonical-both_same : (a : SimpleType) (f : Lambda) → IsCanonical scope [] (predicate a) f → IsCanonical scope (a ∷ a ∷ []) formula (both_same a f)
  canonical-both_same a f h = canonical-imp (a ∷ a ∷ []) (at_outer a f) (imp (at_inner a f) (same_new a)) (canonical-outer a f h) (canonical-inner_same a f h)

  canonical-alone : (a : SimpleType) (f : Lambda) → IsCanonical scope [] (predicate a) f → IsCanonical scope (a ∷ []) (predicate a) (lam a (both_same a f))
  canonical-alone a f h = (predicate_declared scope a f h, (refl, canonical-both_same a f h))

  canonical-each_alone : (a : SimpleType) (f : Lambda) → IsCanonical scope [] (predicate a) f → IsCanonical scope [] (predicate a) (lam a (every a (lam a (both_same a f))))
  canonical-each_alone a f h =
      let d = predicate_declared scope a f h in
      (d, (refl, canonical-every (a ∷ []) a (lam a (both_same a f)) d (canonical-alone a f h)))

  pub canonical-at_most_once : (a : SimpleType) (f : Lambda) → IsCanonical scope [] (predicate a) f → IsCanonical scope [] formula (at_most_once a f)
  canonical-at_most_once a f h = canonical-every [] a (lam a (every a (lam a (both_same a f)))) (predicate_declared scope a f h) (canonical-each_alone a f h)

  pub canonical-described : (a : SimpleType) (f : Lambda) → IsCanonical scope [] (predicate a) f → IsCanonical scope [] a (described a f)
  canonical-described a f h =
      let d = predicate_declared scope a f h in
      canonical-eta scope [] a (app (constant (description a)) f) d (predicate a, ap (λ b. if b then Some (arrow (predicate a) a) else None) d, h)

  pub canonical-applied : (a : SimpleType) (f u : Lambda) → IsCanonical scope [] (predicate a) f → IsCanonical scope [] a u → IsCanonical scope [] formula (apply f u)
  canonical-applied a f u h k = canonical-apply scope [] a formula f u h k

-- functions with the same entries are the same
same_entries : (b n x y : ℕ) → 0 < b → x < b ^ n → y < b ^ n → ((i : ℕ) → i < n → entry b x i ≡ entry b y i) → x ≡ y
same_entries b n x y p h k e =
    sym (mod-eq_of_lt h) ∙ sym (table-entry b n x p) ∙ table_same b n (entry b x) (entry b y) e ∙ table-entry b n y p ∙ mod-eq_of_lt k

test_same : (x y : ℕ) → x ≡ y → test (nat_eq x y) ≡ 1
test_same x y e = ap test (eq-eqb x y e)

one_of_not : (x : ℕ) → x < 2 → 1 - x ≡ 0 → x ≡ 1
one_of_not x h e = omega arith

-- the value of an implication
abbrev implied : ℕ → ℕ → ℕ
implied p q = if nat_eq p 1 then q else 1

forced : (p q r : ℕ) → implied p (implied q r) ≡ 1 → p ≡ 1 → q ≡ 1 → r ≡ 1
forced p q r h i j = ap₂ (λ x y. implied x (implied y r)) (sym i) (sym j) ∙ h

module _ (scope : Scope) (m : Model) (good : IsModel scope m) where
  abbrev val : Lambda → ℕ
  val t = value scope m [] [] t

  -- a predicate at an argument
  pub value-applied : (a : SimpleType) (f u : Lambda) → IsCanonical scope [] (predicate a) f → IsCanonical scope [] a u → val (apply f u) ≡ entry 2 (val f) (val u)
  value-applied a f u h k = value-apply scope m good [] [] a formula f u tt h k ∙ value-app scope m [] [] a formula f u (type_of-canonical scope [] (predicate a) f h)

  module _ (ctx : List SimpleType) (env : List ℕ) (fits : Fits m ctx env) where
    value-at_new : (a b : SimpleType) (f : Lambda) (x : ℕ) → x < size m a → is_declared scope.bases a ≡ true → IsCanonical scope ctx (arrow a b) f → value scope m (a ∷ ctx) (x ∷ env) (at_new a f) ≡ entry (size m b) (value scope m ctx env f) x
    value-at_new a b f x l d h =
        let up = canonical-lift scope [] a ctx (arrow a b) f h in
        value-apply scope m good (a ∷ ctx) (x ∷ env) a b (lift 0 f) (eta a (bound 0)) (l, fits) up (canonical-eta scope (a ∷ ctx) a (bound 0) d refl)
        ∙ value-app scope m (a ∷ ctx) (x ∷ env) a b (lift 0 f) (eta a (bound 0)) (type_of-canonical scope (a ∷ ctx) (arrow a b) (lift 0 f) up)
        ∙ ap₂ (entry (size m b)) (value-lift scope m [] [] refl a x ctx env f) (value-eta scope m good (a ∷ ctx) (x ∷ env) a (bound 0) d (l, fits) refl)

    -- the entry of a function
    entry-lam : (a b : SimpleType) (s : Lambda) (x : ℕ) → x < size m a → type_of scope (a ∷ ctx) s ≡ Some b → entry (size m b) (value scope m ctx env (lam a s)) x ≡ value scope m (a ∷ ctx) (x ∷ env) s
    entry-lam a b s x l h =
        ap (λ v. entry (size m b) v x) (value-lam scope m ctx env a b s h)
        ∙ entry-table (size m b) (size m a) (λ y. value scope m (a ∷ ctx) (y ∷ env) s) (size_pos scope m good b) (λ y k. value-lt scope m good (a ∷ ctx) (y ∷ env) b s h (k, fits)) x l

  pub value-every-canonical : (a : SimpleType) (f : Lambda) → is_declared scope.bases a ≡ true → IsCanonical scope [] (predicate a) f → (val (every a f) ≡ 1 → (x : ℕ) → x < size m a → entry 2 (val f) x ≡ 1) × (val (every a f) ≡ 0 → (x : ℕ) × (x < size m a) × (entry 2 (val f) x ≡ 0)) × (((x : ℕ) → x < size m a → entry 2 (val f) x ≡ 1) → val (every a f) ≡ 1)
  value-every-canonical a f d h =
      let v = value-every scope m good [] [] tt a f d (type_of-canonical scope [] (predicate a) f h) in
      (λ o. ones_each (val f) (size m a) (sym v ∙ o), λ z. some_zero (val f) (size m a) (sym v ∙ z), λ e. v ∙ each_one (val f) (size m a) e)

  entry-agreeing : (a b : SimpleType) (s t : Lambda) → Sides scope [] (arrow a b) s t → (x : ℕ) → x < size m a → entry 2 (val (lam a (eq b (at_new a s) (at_new a t)))) x ≡ test (nat_eq (entry (size m b) (val s) x) (entry (size m b) (val t) x))
  entry-agreeing a b s t e x l =
      let d = (and_parts _ _ e.declared).0 in
      let i = sides-at_new scope a b s t e in
      entry-lam [] [] tt a formula (eq b (at_new a s) (at_new a t)) x l (type_of-canonical scope (a ∷ []) formula (eq b (at_new a s) (at_new a t)) (canonical-eq scope b (at_new a s) (at_new a t) (a ∷ []) i))
      ∙ value-eq scope m good (a ∷ []) (x ∷ []) (l, tt) b (at_new a s) (at_new a t) (record { declared = i.declared; left = type_of-canonical scope (a ∷ []) b (at_new a s) i.left; right = type_of-canonical scope (a ∷ []) b (at_new a t) i.right })
      ∙ ap₂ (λ p q. test (nat_eq p q)) (value-at_new [] [] tt a b s x l d e.left) (value-at_new [] [] tt a b t x l d e.right)

  -- two functions agree everywhere exactly where they have the same value
  pub value-agreement : (a b : SimpleType) (s t : Lambda) → Sides scope [] (arrow a b) s t → (val (agreement a b s t) ≡ 1 → val s ≡ val t) × (val s ≡ val t → val (agreement a b s t) ≡ 1)
  value-agreement a b s t e =
      let d = (and_parts _ _ e.declared).0 in
      let f = lam a (eq b (at_new a s) (at_new a t)) in
      let v = value-every-canonical a (lam a (eq b (at_new a s) (at_new a t))) d (canonical-agreeing scope a b s t e) in (
        λ o. same_entries (size m b) (size m a) (val s) (val t) (size_pos scope m good b) (value-lt scope m good [] [] (arrow a b) s (type_of-canonical scope [] (arrow a b) s e.left) tt) (value-lt scope m good [] [] (arrow a b) t (type_of-canonical scope [] (arrow a b) t e.right) tt)
            (λ i l. test_one _ _ (sym (entry-agreeing a b s t e i l) ∙ v.0 o i l)),
        λ q. v.2 (λ i l. entry-agreeing a b s t e i l ∙ test_same _ _ (ap (λ u. entry (size m b) u i) q)),
      )

  -- where it isn't so that a predicate holds nowhere, it holds of some value
  holds_somewhere : (a : SimpleType) (f : Lambda) → IsCanonical scope [] (predicate a) f → val (nowhere a f) ≡ 0 → (x : ℕ) × (x < size m a) × (entry 2 (val f) x ≡ 1)
  holds_somewhere a f h z =
      let d = predicate_declared scope a f h in
      let denied = canonical-denied scope a f h in
      let inner = canonical-at_new scope [] a formula f d h in
      let found = (value-every-canonical a (lam a (neg (at_new a f))) d denied).1 z in
      let there : value scope m (a ∷ []) (found.0 ∷ []) (neg (at_new a f)) ≡ 0 = sym (entry-lam [] [] tt a formula (neg (at_new a f)) found.0 found.1 (type_of-canonical scope (a ∷ []) formula (neg (at_new a f)) (tt, (formula, refl, inner)))) ∙ found.2 in
      let not_there : 1 - entry 2 (val f) found.0 ≡ 0 = ap (λ u. 1 - u) (sym (value-at_new [] [] tt a formula f found.0 found.1 d h)) ∙ sym (value-neg scope m good (a ∷ []) (found.0 ∷ []) (found.1, tt) (at_new a f) (type_of-canonical scope (a ∷ []) formula (at_new a f) inner)) ∙ there in
      (found.0, found.1, one_of_not (entry 2 (val f) found.0) (mod-lt (val f / 2 ^ found.0) (omega arith)) not_there)

  -- then it holds of what is chosen by it
  pub value-chosen : (a : SimpleType) (f : Lambda) → IsCanonical scope [] (predicate a) f → val (nowhere a f) ≡ 0 → val (apply f (chosen a f)) ≡ 1
  value-chosen a f h z =
      let d = predicate_declared scope a f h in
      let found = holds_somewhere a f h z in
      let c : constant_type scope (choice a) ≡ Some (arrow (predicate a) a) = ap (λ b. if b then Some (arrow (predicate a) a) else None) d in
      let picked : val (chosen a f) ≡ entry (size m a) (val (constant (choice a))) (val f) = value-eta scope m good [] [] a (app (constant (choice a)) f) d tt (predicate a, c, h) ∙ value-app scope m [] [] (predicate a) a (constant (choice a)) f c in
      value-applied a f (chosen a f) h (canonical-chosen scope a f h) ∙ ap (entry 2 (val f)) picked
      ∙ chooses scope m good a (val f) (value-lt scope m good [] [] (predicate a) f (type_of-canonical scope [] (predicate a) f h) tt) found.0 found.1 found.2

  -- the value of the formula that two values are the same where a predicate holds of both
  value-both_same : (a : SimpleType) (f : Lambda) → IsCanonical scope [] (predicate a) f → (x y : ℕ) → x < size m a → y < size m a → value scope m (a ∷ a ∷ []) (y ∷ x ∷ []) (both_same a f) ≡ implied (entry 2 (val f) x) (implied (entry 2 (val f) y) (test (nat_eq x y)))
  value-both_same a f h x y l k =
      let d = predicate_declared scope a f h in
      let e = sides-new scope a d in
      let two : Fits m (a ∷ a ∷ []) (y ∷ x ∷ []) = (k, (l, tt)) in
      let outer : value scope m (a ∷ a ∷ []) (y ∷ x ∷ []) (at_outer a f) ≡ entry 2 (val f) x = value-lift scope m [] [] refl a y (a ∷ []) (x ∷ []) (at_new a f) ∙ value-at_new [] [] tt a formula f x l d h in
      let inner : value scope m (a ∷ a ∷ []) (y ∷ x ∷ []) (at_inner a f) ≡ entry 2 (val f) y = value-at_new (a ∷ []) (x ∷ []) (l, tt) a formula (lift 0 f) y k d (canonical-lift scope [] a [] (predicate a) f h) ∙ ap (λ v. entry 2 v y) (value-lift scope m [] [] refl a x [] [] f) in
      let same : value scope m (a ∷ a ∷ []) (y ∷ x ∷ []) (same_new a) ≡ test (nat_eq x y) =
      value-eq scope m good (a ∷ a ∷ []) (y ∷ x ∷ []) two a (eta a (bound 1)) (eta a (bound 0)) (record { declared = d; left = type_of-canonical scope (a ∷ a ∷ []) a (eta a (bound 1)) e.left; right = type_of-canonical scope (a ∷ a ∷ []) a (eta a (bound 0)) e.right })
      ∙ ap₂ (λ p q. test (nat_eq p q)) (value-eta scope m good (a ∷ a ∷ []) (y ∷ x ∷ []) a (bound 1) d two refl) (value-eta scope m good (a ∷ a ∷ []) (y ∷ x ∷ []) a (bound 0) d two refl) in
      value-imp scope m good (a ∷ a ∷ []) (y ∷ x ∷ []) two (at_outer a f) (imp (at_inner a f) (same_new a)) (type_of-canonical scope (a ∷ a ∷ []) formula (at_outer a f) (canonical-outer scope a f h)) (type_of-canonical scope (a ∷ a ∷ []) formula (imp (at_inner a f) (same_new a)) (canonical-inner_same scope a f h))
      ∙ ap₂ implied outer
      (value-imp scope m good (a ∷ a ∷ []) (y ∷ x ∷ []) two (at_inner a f) (same_new a) (type_of-canonical scope (a ∷ a ∷ []) formula (at_inner a f) (canonical-inner scope a f h)) (type_of-canonical scope (a ∷ a ∷ []) formula (same_new a) (canonical-eq scope a (eta a (bound 1)) (eta a (bound 0)) (a ∷ a ∷ []) e))
      ∙ ap₂ implied inner same)

  -- a predicate that holds of one value at most holds of the same one
  value-at_most_once : (a : SimpleType) (f : Lambda) → IsCanonical scope [] (predicate a) f → val (at_most_once a f) ≡ 1 → (x y : ℕ) → x < size m a → y < size m a → entry 2 (val f) x ≡ 1 → entry 2 (val f) y ≡ 1 → x ≡ y
  value-at_most_once a f h o x y l k p q =
      let d = predicate_declared scope a f h in
      let alone = canonical-alone scope a f h in
      let all : IsCanonical scope (a ∷ []) formula (every a (lam a (both_same a f))) = canonical-every scope (a ∷ []) a (lam a (both_same a f)) d alone in
      let first : value scope m (a ∷ []) (x ∷ []) (every a (lam a (both_same a f))) ≡ 1 =
      sym (entry-lam [] [] tt a formula (every a (lam a (both_same a f))) x l (type_of-canonical scope (a ∷ []) formula (every a (lam a (both_same a f))) all))
      ∙ (value-every-canonical a (lam a (every a (lam a (both_same a f)))) d (canonical-each_alone scope a f h)).0 o x l in
      let each : all_ones (value scope m (a ∷ []) (x ∷ []) (lam a (both_same a f))) (size m a) ≡ 1 =
      sym (value-every scope m good (a ∷ []) (x ∷ []) (l, tt) a (lam a (both_same a f)) d (type_of-canonical scope (a ∷ []) (predicate a) (lam a (both_same a f)) alone)) ∙ first in
      let both : value scope m (a ∷ a ∷ []) (y ∷ x ∷ []) (both_same a f) ≡ 1 =
      sym (entry-lam (a ∷ []) (x ∷ []) (l, tt) a formula (both_same a f) y k (type_of-canonical scope (a ∷ a ∷ []) formula (both_same a f) (canonical-both_same scope a f h)))
      ∙ ones_each (value scope m (a ∷ []) (x ∷ []) (lam a (both_same a f))) (size m a) each y k in
      test_one x y (forced (entry 2 (val f) x) (entry 2 (val f) y) (test (nat_eq x y)) (sym (value-both_same a f h x y l k) ∙ both) p q)

  -- where a predicate holds of just one value, it holds of what it describes
  pub value-described : (a : SimpleType) (f : Lambda) → IsCanonical scope [] (predicate a) f → val (nowhere a f) ≡ 0 → val (at_most_once a f) ≡ 1 → val (apply f (described a f)) ≡ 1
  value-described a f h z o =
      let d = predicate_declared scope a f h in
      let found = holds_somewhere a f h z in
      let c : constant_type scope (description a) ≡ Some (arrow (predicate a) a) = ap (λ b. if b then Some (arrow (predicate a) a) else None) d in
      let picked : val (described a f) ≡ entry (size m a) (val (constant (description a))) (val f) = value-eta scope m good [] [] a (app (constant (description a)) f) d tt (predicate a, c, h) ∙ value-app scope m [] [] (predicate a) a (constant (description a)) f c in
      let is : entry (size m a) (val (constant (description a))) (val f) ≡ found.0 = describes scope m good a (val f) (value-lt scope m good [] [] (predicate a) f (type_of-canonical scope [] (predicate a) f h) tt) found.0 found.1 found.2 (λ y l e. value-at_most_once a f h o y found.0 l found.1 e found.2) in
      value-applied a f (described a f) h (canonical-described scope a f h) ∙ ap (entry 2 (val f)) (picked ∙ is) ∙ found.2
