-- The shapes of formulas.
use Rattle.std.specs.Prelude.{◌≡◌, ◌&&◌, ◌↔◌, ℕ, zero, suc, Bool, true, false, IsTrue, List, [], ◌∷◌, length, slice_get, Some, refl}
use Rattle.std.proofs.Common.{sym, ap, ap₂, ◌∙◌, subst, arith, true≢false}
use Rattle.std.proofs.lemmas.Bool.{false_from_ne_true}
use Rattle.std.proofs.lemmas.Option.{same_Some}
use Rattle.stt_core.specs.SimpleType.{SimpleType, base, arrow, formula}
use Rattle.stt_core.specs.Lambda.{name, witness, falsity, negation, implication, all, equality, choice, description, Lambda, bound, constant, lam, app, eq, every, applied}
use Rattle.stt_core.specs.SameTerm.{same_term}
use Rattle.stt_core.proofs.SpineLaws.{IsAtom}
use Rattle.stt_core.proofs.SameTerms.{same_term-of, same_term-true}
use Rattle.tableau_calculus.specs.Literals.{plus, minus}
use Rattle.search_spec.specs.Partners.{has_equal_sides}
use Rattle.search_spec.specs.Spine.{head_of, has_compared_head, is_application, is_spine, same_head}
use Rattle.search_spec.specs.State.{State, Setting}
use Rattle.search_spec.specs.Processing.{connective_rule, with_connective, with_rules}
use Rattle.prover_state.specs.Internal.Pending.{equation_type}
use Rattle.prover_state.specs.Internal.Selecting.{term_parts}
use Rattle.prover_state.specs.Internal.Shapes.{IsBaseEquation}
use Rattle.prover_search.specs.Internal.Working.{equation_shape, shape_of, IsEquated}
use Rattle.prover_search.specs.declared.shape.Shape.{Shape}
use Rattle.prover_search.specs.declared.shape.Shape.TheVariants.{FormulaEquation, FunctionEquation, BaseEquation, Quantified, Other}
use Rattle.prover_search.proofs.RuleUses.{head_of-applied}

-- WHAT A FORMULA OF A SHAPE IS

-- for a literal with this atom is done what its connective asks for
abbrev pub IsConnected : Lambda → Type 0
IsConnected t = (setting : Setting) (st : State) → (with_rules setting true t st ≡ with_connective (plus t) setting (connective_rule t true) st) × (with_rules setting false t st ≡ with_connective (minus t) setting (connective_rule t false) st)

abbrev pub IsShaped : Lambda → Shape → Type 0
IsShaped t FormulaEquation = (s : Lambda) × (u : Lambda) × (t ≡ eq formula s u)
IsShaped t FunctionEquation = (a : SimpleType) × (b : SimpleType) × (s : Lambda) × (u : Lambda) × (t ≡ eq (arrow a b) s u)
IsShaped t (BaseEquation n) = (m : ℕ) × (s : Lambda) × (u : Lambda) × (n ≡ suc m) × (t ≡ eq (base (suc m)) s u)
IsShaped t Quantified = (a : SimpleType) × (f : Lambda) × (t ≡ every a f)
IsShaped t Other = IsConnected t

shaped : (t : Lambda) → IsShaped t (shape_of t)
shaped (bound k) = λ setting st. (refl, refl)
shaped (lam a s) = λ setting st. (refl, refl)
shaped (constant (name k)) = λ setting st. (refl, refl)
shaped (constant (witness k)) = λ setting st. (refl, refl)
shaped (constant falsity) = λ setting st. (refl, refl)
shaped (constant negation) = λ setting st. (refl, refl)
shaped (constant implication) = λ setting st. (refl, refl)
shaped (constant (all a)) = λ setting st. (refl, refl)
shaped (constant (equality a)) = λ setting st. (refl, refl)
shaped (constant (choice a)) = λ setting st. (refl, refl)
shaped (constant (description a)) = λ setting st. (refl, refl)
shaped (app (bound k) u) = λ setting st. (refl, refl)
shaped (app (lam a s) u) = λ setting st. (refl, refl)
shaped (app (constant (name k)) u) = λ setting st. (refl, refl)
shaped (app (constant (witness k)) u) = λ setting st. (refl, refl)
shaped (app (constant falsity) u) = λ setting st. (refl, refl)
shaped (app (constant negation) u) = λ setting st. (refl, refl)
shaped (app (constant implication) u) = λ setting st. (refl, refl)
shaped (app (constant (all a)) u) = (a, u, refl)
shaped (app (constant (equality a)) u) = λ setting st. (refl, refl)
shaped (app (constant (choice a)) u) = λ setting st. (refl, refl)
shaped (app (constant (description a)) u) = λ setting st. (refl, refl)
shaped (app (app (bound k) s) u) = λ setting st. (refl, refl)
shaped (app (app (lam a r) s) u) = λ setting st. (refl, refl)
shaped (app (app (app r v) s) u) = λ setting st. (refl, refl)
shaped (app (app (constant (name k)) s) u) = λ setting st. (refl, refl)
shaped (app (app (constant (witness k)) s) u) = λ setting st. (refl, refl)
shaped (app (app (constant falsity) s) u) = λ setting st. (refl, refl)
shaped (app (app (constant negation) s) u) = λ setting st. (refl, refl)
shaped (app (app (constant implication) s) u) = λ setting st. (refl, refl)
shaped (app (app (constant (all a)) s) u) = λ setting st. (refl, refl)
shaped (app (app (constant (equality (base zero))) s) u) = (s, u, refl)
shaped (app (app (constant (equality (base (suc n)))) s) u) = (n, s, u, refl, refl)
shaped (app (app (constant (equality (arrow a b))) s) u) = (a, b, s, u, refl)
shaped (app (app (constant (choice a)) s) u) = λ setting st. (refl, refl)
shaped (app (app (constant (description a)) s) u) = λ setting st. (refl, refl)

pub shaped-as : (t : Lambda) (x : Shape) → shape_of t ≡ x → IsShaped t x
shaped-as t x e = let P : Shape → Type 0 = λ y. IsShaped t y in subst P e (shaped t)

-- an equation on a base type other than that of formulas
pub base-equation : (t : Lambda) (n : ℕ) → shape_of t ≡ BaseEquation n → IsBaseEquation t
base-equation t n e = let k = shaped-as t (BaseEquation n) e in record { base_number = k.0; left = k.1; right = k.2; is = k.4 }

pub base-equated : (t : Lambda) (n : ℕ) → shape_of t ≡ BaseEquation n → IsEquated t
base-equated t n e = let k = shaped-as t (BaseEquation n) e in record { type = base (suc k.0); left = k.1; right = k.2; is = k.4 }

pub function-equated : (t : Lambda) → shape_of t ≡ FunctionEquation → IsEquated t
function-equated t e = let k = shaped-as t FunctionEquation e in record { type = arrow k.0 k.1; left = k.2; right = k.3; is = k.4 }

-- the sides are those of an equation on the type of this number
pub base-sides : (t : Lambda) (n : ℕ) (x y : Lambda) → shape_of t ≡ BaseEquation n → t ≡ eq (equation_type t) x y → (m : ℕ) × (n ≡ suc m) × (t ≡ eq (base (suc m)) x y)
base-sides t n x y e f = let k = shaped-as t (BaseEquation n) e in (k.0, k.3, f ∙ ap (λ u. eq (equation_type u) x y) k.4)

-- the parts of an equation are its sides
pub sides-are : (t : Lambda) → IsEquated t → (x y : Lambda) → slice_get (term_parts t) 0 ≡ Some x → slice_get (term_parts t) 1 ≡ Some y → t ≡ eq (equation_type t) x y
sides-are t h x y =
    let P : Lambda → Type 0 = λ u. slice_get (term_parts u) 0 ≡ Some x → slice_get (term_parts u) 1 ≡ Some y → u ≡ eq (equation_type u) x y in
    subst P (sym h.is) (λ p q. ap₂ (eq h.type) (same_Some h.left x p) (same_Some h.right y q))

pub two-parts : (t : Lambda) → IsEquated t → length (term_parts t) ≡ 2
two-parts t h = ap (λ u. length (term_parts u)) h.is

-- what has equal sides is an equation
pub equal-sides : (t : Lambda) → has_equal_sides t ≡ true → (a : SimpleType) × (s : Lambda) × (t ≡ eq a s s)
equal-sides (bound k) e = cc
equal-sides (constant c) e = cc
equal-sides (lam a s) e = cc
equal-sides (app (bound k) u) e = cc
equal-sides (app (constant c) u) e = cc
equal-sides (app (lam a s) u) e = cc
equal-sides (app (app (bound k) s) u) e = cc
equal-sides (app (app (lam a r) s) u) e = cc
equal-sides (app (app (app r v) s) u) e = cc
equal-sides (app (app (constant (name k)) s) u) e = cc
equal-sides (app (app (constant (witness k)) s) u) e = cc
equal-sides (app (app (constant falsity) s) u) e = cc
equal-sides (app (app (constant negation) s) u) e = cc
equal-sides (app (app (constant implication) s) u) e = cc
equal-sides (app (app (constant (all a)) s) u) e = cc
equal-sides (app (app (constant (equality a)) s) u) e = (a, s, ap (eq a s) (sym (same_term-true s u e)))
equal-sides (app (app (constant (choice a)) s) u) e = cc
equal-sides (app (app (constant (description a)) s) u) e = cc

-- SHAPES BY HEADS AND ARGUMENTS

pub base-shape : (n : ℕ) → (n ≡ 0 → ⊥) → BaseEquation n ≡ equation_shape (base n)
base-shape zero h = absurd (h refl)
base-shape (suc n) h = refl

three_arguments : (s t u v : Lambda) (ts : List Lambda) → Other ≡ shape_of (applied (app (app (app s t) u) v) ts)
three_arguments s t u v [] = refl
three_arguments s t u v (w ∷ ts) = three_arguments (app s t) u v w ts

pub other-head : (h : Lambda) → Other ≡ shape_of h → ((t : Lambda) → Other ≡ shape_of (app h t)) → ((t u : Lambda) → Other ≡ shape_of (app (app h t) u)) → (ts : List Lambda) → Other ≡ shape_of (applied h ts)
other-head h p q r [] = p
other-head h p q r (t ∷ []) = q t
other-head h p q r (t ∷ u ∷ []) = r t u
other-head h p q r (t ∷ u ∷ v ∷ ts) = three_arguments h t u v ts

pub equation-pair : (a : SimpleType) (ts : List Lambda) → length ts ≡ 2 → equation_shape a ≡ shape_of (applied (constant (equality a)) ts)
equation-pair a [] n = absurd (omega (arith, n))
equation-pair a (t ∷ []) n = absurd (omega (arith, n))
equation-pair a (t ∷ u ∷ []) n = refl
equation-pair a (t ∷ u ∷ v ∷ ts) n = absurd (omega (arith, n))

pub equation-others : (a : SimpleType) (ts : List Lambda) → (length ts ≡ 2 → ⊥) → Other ≡ shape_of (applied (constant (equality a)) ts)
equation-others a [] n = refl
equation-others a (t ∷ []) n = refl
equation-others a (t ∷ u ∷ []) n = absurd (n refl)
equation-others a (t ∷ u ∷ v ∷ ts) n = three_arguments (constant (equality a)) t u v ts

pub quantified-single : (a : SimpleType) (ts : List Lambda) → length ts ≡ 1 → Quantified ≡ shape_of (applied (constant (all a)) ts)
quantified-single a [] n = absurd (omega (arith, n))
quantified-single a (t ∷ []) n = refl
quantified-single a (t ∷ u ∷ ts) n = absurd (omega (arith, n))

pub quantified-others : (a : SimpleType) (ts : List Lambda) → (length ts ≡ 1 → ⊥) → Other ≡ shape_of (applied (constant (all a)) ts)
quantified-others a [] n = refl
quantified-others a (t ∷ []) n = absurd (n refl)
quantified-others a (t ∷ u ∷ []) n = refl
quantified-others a (t ∷ u ∷ v ∷ ts) n = three_arguments (constant (all a)) t u v ts

-- HEADS THAT ARE COMPARED

head_leaf : (h : Lambda) → IsAtom h → head_of h ≡ h
head_leaf (bound k) a = refl
head_leaf (constant c) a = refl
head_leaf (lam b s) a = absurd a
head_leaf (app s u) a = absurd a

pub head-applied : (h : Lambda) → IsAtom h → (ts : List Lambda) → head_of (applied h ts) ≡ h
head-applied h a ts = head_of-applied h ts ∙ head_leaf h a

application : (h t : Lambda) (ts : List Lambda) → is_application (applied (app h t) ts) ≡ true
application h t [] = refl
application h t (u ∷ ts) = application (app h t) u ts

leaf_no_spine : (h : Lambda) → IsAtom h → is_spine h ≡ false
leaf_no_spine (bound k) a = refl
leaf_no_spine (constant c) a = refl
leaf_no_spine (lam b s) a = absurd a
leaf_no_spine (app s u) a = absurd a

pub spine-none : (h : Lambda) → IsAtom h → (ts : List Lambda) → length ts ≡ 0 → is_spine (applied h ts) ≡ false
spine-none h a [] n = leaf_no_spine h a
spine-none h a (t ∷ ts) n = absurd (omega (arith, n))

pub spine-some : (h : Lambda) → IsAtom h → (ts : List Lambda) → (length ts ≡ 0 → ⊥) → is_spine (applied h ts) ≡ has_compared_head h
spine-some h a [] n = absurd (n refl)
spine-some h a (t ∷ ts) n = ap₂ (λ (x : Bool) (y : Lambda). x && has_compared_head y) (application h t ts) (head-applied h a (t ∷ ts))

pub heads-same : (h k : Lambda) → IsAtom h → IsAtom k → (ss ts : List Lambda) → same_head (applied h ss) (applied k ts) ≡ same_term h k
heads-same h k a b ss ts = ap₂ same_term (head-applied h a ss) (head-applied k b ts)

no_function : (h : Lambda) → IsAtom h → (c : SimpleType) (u : Lambda) → same_term h (lam c u) ≡ false
no_function (bound k) a c u = refl
no_function (constant d) a c u = refl
no_function (lam b s) a c u = absurd a
no_function (app s v) a c u = absurd a

pub head-no_function : (h : Lambda) → IsAtom h → (ss : List Lambda) (c : SimpleType) (u : Lambda) → same_head (applied h ss) (lam c u) ≡ false
head-no_function h a ss c u = ap (λ x. same_term x (lam c u)) (head-applied h a ss) ∙ no_function h a c u

-- a test that tells whether two terms are the same is the test of terms
pub tells-same : (r : Bool) (s t : Lambda) → (IsTrue r ↔ (s ≡ t)) → r ≡ same_term s t
tells-same true s t e = sym (same_term-of s t (e.0 refl))
tells-same false s t e = sym (false_from_ne_true (same_term s t) (λ p. true≢false (sym (e.1 (same_term-true s t p)))))
