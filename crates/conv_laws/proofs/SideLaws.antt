-- The sides of a conjecture.
use Rattle.std.proofs.Common.{◌≡◌, ◌↔◌, [], Option, Some, None, Bool, true, false, refl, sym, ap, ap₂, subst, ◌∙◌}
use Rattle.std.specs.Prelude.{IsTrue}
use Rattle.stt_core.specs.SimpleType.{SimpleType, arrow, formula}
use Rattle.stt_core.specs.Lambda.{equality, Lambda, constant, app, eq}
use Rattle.stt_core.specs.Typing.{Scope, type_of}
use Rattle.stt_core.specs.Declarations.{scope_of}
use Rattle.stt_core.specs.PlainProblem.{PlainProblem}
use Rattle.stt_core.specs.TypedProblem.{IsTyped, IsFormulaIfThere}
use Rattle.stt_core.proofs.TypeLaws.{applies, given}
use Rattle.conv_laws.specs.Steps.{HaveOneType, AreConvertible}
use Rattle.conv_laws.specs.Sides.{Equates, AreSidesOf, same, different, no_equation}
use Rattle.conv_laws.specs.Internal.Equation.{sides_of}
use Rattle.conv_laws.specs.declared.sides.Sides.{Sides}
use Rattle.conv_laws.specs.declared.sides.Sides.TheVariants.{Same, Different, NoEquation}

-- the equation that has these sides
record Equation (t l r : Lambda) : Type 0 where
  type : SimpleType
  is : t ≡ eq type l r

equation_of : (t l r : Lambda) → sides_of t ≡ Some (l, r) → Equation t l r
equation_of (app (app (constant (equality a)) s) u) l r h =
    let e : s ≡ l = ap (λ o. left_or s o) h in
    let f : u ≡ r = ap (λ o. right_or u o) h in
    record { type = a; is = ap₂ (eq a) e f }
  where
    left_or : Lambda → Option (Lambda × Lambda) → Lambda
    left_or x None = x
    left_or x (Some p) = p.0

    right_or : Lambda → Option (Lambda × Lambda) → Lambda
    right_or x None = x
    right_or x (Some p) = p.1
equation_of t l r h = cc

-- the sides of a typed equation have one type
pub sides_typed : (scope : Scope) (a b : SimpleType) (l r : Lambda) → type_of scope [] (eq a l r) ≡ Some b → HaveOneType scope [] l r
sides_typed scope a b l r h =
    let p = applies _ _ b h in
    let q = applies _ _ (arrow p.argument b) p.function_type in
    let g = given scope a _ _ q.function_type in
    let g_is = g.is in
    let e : q.argument ≡ a = cc in
    let f : p.argument ≡ a = cc in
    record { type = a; first = q.argument_type ∙ ap Some e; second = p.argument_type ∙ ap Some f }

equates : (p : PlainProblem) (t l r : Lambda) → p.conjecture ≡ Some t → Some (l, r) ≡ sides_of t → Equates p l r
equates p t l r c e =
    let q = equation_of t l r (sym e) in
    (q.type, c ∙ ap Some q.is)

-- the sides of a typed problem's conjecture have one type
pub asked_typed : (p : PlainProblem) (t l r : Lambda) → IsTyped p → p.conjecture ≡ Some t → Some (l, r) ≡ sides_of t → HaveOneType (scope_of p.declared) [] l r
asked_typed p t l r h c e =
    let q = equates p t l r c e in
    sides_typed (scope_of p.declared) q.0 formula l r (subst (IsFormulaIfThere (scope_of p.declared)) q.1 h.conjecture)

-- WHAT IS SAID

pub unasked : (p : PlainProblem) → p.conjecture ≡ None → AreSidesOf p NoEquation
unasked p c = no_equation (λ l r q. let c' = q.1 in cc)

pub no_sides : (p : PlainProblem) (t : Lambda) → p.conjecture ≡ Some t → None ≡ sides_of t → AreSidesOf p NoEquation
no_sides p t c e =
    no_equation
    (λ l r q.
    let c' = q.1 in
    let f : t ≡ eq q.0 l r = cc in
    let g : None ≡ Some (l, r) = e ∙ ap sides_of f in
    cc)

pub said_same : (p : PlainProblem) (t l r : Lambda) (b : Bool) → p.conjecture ≡ Some t → Some (l, r) ≡ sides_of t → (IsTrue b ↔ AreConvertible (scope_of p.declared) [] l r) → b ≡ true → AreSidesOf p Same
said_same p t l r b c e k y = same l r (equates p t l r c e) (k.0 y)

pub said_different : (p : PlainProblem) (t l r : Lambda) (b : Bool) → p.conjecture ≡ Some t → Some (l, r) ≡ sides_of t → (IsTrue b ↔ AreConvertible (scope_of p.declared) [] l r) → b ≡ false → AreSidesOf p Different
said_different p t l r b c e k n = different l r (equates p t l r c e) (λ x. let y : b ≡ true = k.1 x in cc)

-- ONE ANSWER

convertible_too : (p : PlainProblem) (s t l r : Lambda) → Equates p s t → Equates p l r → AreConvertible (scope_of p.declared) [] s t → AreConvertible (scope_of p.declared) [] l r
convertible_too p s t l r e q k =
    let e' = e.1 in
    let q' = q.1 in
    let f : s ≡ l = cc in
    let g : t ≡ r = cc in
    subst (λ x. AreConvertible (scope_of p.declared) [] x r) f (subst (AreConvertible (scope_of p.declared) [] s) g k)

pub one_said : (p : PlainProblem) (x y : Sides) → AreSidesOf p x → AreSidesOf p y → x ≡ y
one_said p x y (same s t e k) (same l r q m) = refl
one_said p x y (same s t e k) (different l r q m) = absurd (m (convertible_too p s t l r e q k))
one_said p x y (same s t e k) (no_equation m) = absurd (m s t e)
one_said p x y (different s t e k) (same l r q m) = absurd (k (convertible_too p l r s t q e m))
one_said p x y (different s t e k) (different l r q m) = refl
one_said p x y (different s t e k) (no_equation m) = absurd (m s t e)
one_said p x y (no_equation k) (same l r q m) = absurd (k l r q)
one_said p x y (no_equation k) (different l r q m) = absurd (k l r q)
one_said p x y (no_equation k) (no_equation m) = refl
