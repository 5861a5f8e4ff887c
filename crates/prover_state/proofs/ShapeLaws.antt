-- The shapes of formulas.
use Rattle.std.specs.Prelude.{◌≡◌, ℕ, Bool, true, false, List, [], ◌∷◌, map, slice_get, length, is_some, Option, Some, None, refl, if◌then◌else◌}
use Rattle.std.proofs.Common.{ap, ap₂, ◌∙◌, arith}
use Rattle.std.proofs.lemmas.Option.{same_Some}
use Rattle.stt_core.specs.SimpleType.{SimpleType, formula, same_type}
use Rattle.stt_core.specs.Lambda.{name, witness, falsity, negation, implication, all, equality, choice, description, Lambda, bound, constant, lam, app, applied}
use Rattle.stt_core.specs.SameTerm.{same_term}
use Rattle.stt_core.proofs.SpineLaws.{IsAtom}
use Rattle.tableau_calculus.specs.Internal.Heads.{equality_of, quantified_by}
use Rattle.search_spec.specs.Partners.{has_equal_sides}
use Rattle.search_spec.specs.Terms.{ranges_over}
use Rattle.prover_state.specs.Internal.Shapes.{quantified_type}

-- QUANTIFIED FORMULAS

pub quantified-one : (h t : Lambda) → quantified_by h ≡ quantified_type (app h t)
quantified-one (bound k) t = refl
quantified-one (constant (name k)) t = refl
quantified-one (constant (witness k)) t = refl
quantified-one (constant falsity) t = refl
quantified-one (constant negation) t = refl
quantified-one (constant implication) t = refl
quantified-one (constant (all a)) t = refl
quantified-one (constant (equality a)) t = refl
quantified-one (constant (choice a)) t = refl
quantified-one (constant (description a)) t = refl
quantified-one (lam a s) t = refl
quantified-one (app s u) t = refl

quantified_two : (s t u : Lambda) (ts : List Lambda) → quantified_type (applied (app (app s t) u) ts) ≡ None
quantified_two s t u [] = refl
quantified_two s t u (v ∷ ts) = quantified_two (app s t) u v ts

quantified_leaf : (h : Lambda) → IsAtom h → quantified_type h ≡ None
quantified_leaf (bound k) a = refl
quantified_leaf (constant c) a = refl
quantified_leaf (lam b s) a = absurd a
quantified_leaf (app s u) a = absurd a

pub quantified-others : (h : Lambda) → IsAtom h → (ts : List Lambda) → (length ts ≡ 1 → ⊥) → quantified_type (applied h ts) ≡ None
quantified-others h a [] n = quantified_leaf h a
quantified-others h a (t ∷ []) n = absurd (n refl)
quantified-others h a (t ∷ u ∷ ts) n = quantified_two h t u ts

pub quantified-single : (h : Lambda) (ts : List Lambda) → length ts ≡ 1 → quantified_by h ≡ quantified_type (applied h ts)
quantified-single h [] n = cc
quantified-single h (t ∷ []) n = quantified-one h t
quantified-single h (t ∷ u ∷ ts) n = absurd (omega (arith, n))

-- whether a type is that over which a formula ranges
abbrev pub ranges_by : SimpleType → Option SimpleType → Bool
ranges_by a None = false
ranges_by a (Some b) = same_type a b

pub ranges-quantified : (a : SimpleType) (t : Lambda) → ranges_by a (quantified_type t) ≡ ranges_over a t
ranges-quantified a (bound k) = refl
ranges-quantified a (constant c) = refl
ranges-quantified a (lam b s) = refl
ranges-quantified a (app (bound k) u) = refl
ranges-quantified a (app (lam b s) u) = refl
ranges-quantified a (app (app s t) u) = refl
ranges-quantified a (app (constant (name k)) u) = refl
ranges-quantified a (app (constant (witness k)) u) = refl
ranges-quantified a (app (constant falsity) u) = refl
ranges-quantified a (app (constant negation) u) = refl
ranges-quantified a (app (constant implication) u) = refl
ranges-quantified a (app (constant (all b)) u) = refl
ranges-quantified a (app (constant (equality b)) u) = refl
ranges-quantified a (app (constant (choice b)) u) = refl
ranges-quantified a (app (constant (description b)) u) = refl

-- EQUATIONS WITH EQUAL SIDES

pub sides-two : (h s t : Lambda) → has_equal_sides (app (app h s) t) ≡ (if is_some (equality_of h) then same_term s t else false)
sides-two (bound k) s t = refl
sides-two (constant (name k)) s t = refl
sides-two (constant (witness k)) s t = refl
sides-two (constant falsity) s t = refl
sides-two (constant negation) s t = refl
sides-two (constant implication) s t = refl
sides-two (constant (all a)) s t = refl
sides-two (constant (equality a)) s t = refl
sides-two (constant (choice a)) s t = refl
sides-two (constant (description a)) s t = refl
sides-two (lam a u) s t = refl
sides-two (app u v) s t = refl

pub no-equality : (h : Lambda) (ts : List Lambda) → length ts ≡ 2 → is_some (equality_of h) ≡ false → has_equal_sides (applied h ts) ≡ false
no-equality h [] n e = cc
no-equality h (t ∷ []) n e = absurd (omega (arith, n))
no-equality h (t ∷ u ∷ []) n e = sides-two h t u ∙ ap (λ (b : Bool). if b then same_term t u else false) e
no-equality h (t ∷ u ∷ v ∷ ts) n e = absurd (omega (arith, n))

pub sides-pair : (h : Lambda) (f : ℕ → Lambda) (is : List ℕ) (i j : ℕ) → length is ≡ 2 → slice_get is 0 ≡ Some i → slice_get is 1 ≡ Some j → is_some (equality_of h) ≡ true → has_equal_sides (applied h (map f is)) ≡ same_term (f i) (f j)
sides-pair h f [] i j n a b e = cc
sides-pair h f (k ∷ []) i j n a b e = absurd (omega (arith, n))
sides-pair h f (k ∷ l ∷ []) i j n a b e =
    sides-two h (f k) (f l)
    ∙ ap (λ (x : Bool). if x then same_term (f k) (f l) else false) e
    ∙ ap₂ (λ x y. same_term (f x) (f y)) (same_Some k i a) (same_Some l j b)
sides-pair h f (k ∷ l ∷ m ∷ is) i j n a b e = absurd (omega (arith, n))

sides_three : (s t u v : Lambda) (ts : List Lambda) → has_equal_sides (applied (app (app (app s t) u) v) ts) ≡ false
sides_three s t u v [] = refl
sides_three s t u v (w ∷ ts) = sides_three (app s t) u v w ts

sides_leaf : (h : Lambda) → IsAtom h → has_equal_sides h ≡ false
sides_leaf (bound k) a = refl
sides_leaf (constant c) a = refl
sides_leaf (lam b s) a = absurd a
sides_leaf (app s u) a = absurd a

sides_one : (h t : Lambda) → IsAtom h → has_equal_sides (app h t) ≡ false
sides_one (bound k) t a = refl
sides_one (constant c) t a = refl
sides_one (lam b s) t a = absurd a
sides_one (app s u) t a = absurd a

pub sides-others : (h : Lambda) → IsAtom h → (ts : List Lambda) → (length ts ≡ 2 → ⊥) → has_equal_sides (applied h ts) ≡ false
sides-others h a [] n = sides_leaf h a
sides-others h a (t ∷ []) n = sides_one h t a
sides-others h a (t ∷ u ∷ []) n = absurd (n refl)
sides-others h a (t ∷ u ∷ v ∷ ts) n = sides_three h t u v ts
