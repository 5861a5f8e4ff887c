-- How many arguments heads have in formulas.
use Rattle.std.specs.Prelude.{◌≡◌, ◌+◌, ◌≤◌, ℕ, suc, [], Bool, true, false, Some, None, refl, if◌then◌else◌}
use Rattle.std.proofs.Common.{sym, ap, ◌∙◌, arith}
use Rattle.std.proofs.lemmas.Option.{same_Some}
use Rattle.stt_core.specs.SimpleType.{SimpleType, base, arrow, formula, predicate, is_declared}
use Rattle.stt_core.specs.Lambda.{Constant, equality, Lambda, bound, constant, lam, app}
use Rattle.stt_core.specs.Typing.{Scope, constant_type}
use Rattle.stt_core.specs.Canonical.{IsCanonical, IsNeutral}
use Rattle.search_spec.specs.Spine.{head_of, is_application}

-- how many arguments a function of this type takes, and a term's head has
abbrev arity : SimpleType → ℕ
arity (base n) = 0
arity (arrow a b) = suc (arity b)

abbrev pub count : Lambda → ℕ
count (bound k) = 0
count (constant c) = 0
count (lam a s) = 0
count (app s u) = suc (count s)

module _ (scope : Scope) where
  -- what is known of the constant at a term's head
  abbrev HeadType : SimpleType → Lambda → Constant → Type 0
  HeadType a t c = (T : SimpleType) × (constant_type scope c ≡ Some T) × (arity T ≡ arity a + count t)

  same_constant_at : (c d : Constant) → constant c ≡ constant d → c ≡ d
  same_constant_at c d e = cc

  head_type : (t : Lambda) (a : SimpleType) (c : Constant) → IsNeutral scope [] a t → head_of t ≡ constant c → HeadType a t c
  head_type (bound k) a c h e = cc
  head_type (constant d) a c h e =
      (a, ap (constant_type scope) (sym (same_constant_at d c e)) ∙ h, omega arith)
  head_type (lam b s) a c h e = absurd h
  head_type (app s u) a c h e =
      let r = head_type s (arrow h.0 a) c h.1 e in
      (r.0, r.1, omega (arith, r.2))

  formula_neutral : (t : Lambda) → IsCanonical scope [] formula t → IsNeutral scope [] formula t
  formula_neutral (bound k) h = h.1
  formula_neutral (constant c) h = h.1
  formula_neutral (app s u) h = h.1
  formula_neutral (lam a s) h = absurd h.1

  -- formulas with one constant at the head have equally many arguments
  pub count-same : (s t : Lambda) (c : Constant) → IsCanonical scope [] formula s → IsCanonical scope [] formula t → head_of s ≡ constant c → head_of t ≡ constant c → count s ≡ count t
  count-same s t c h k e f =
      let p = head_type s formula c (formula_neutral s h) e in
      let q = head_type t formula c (formula_neutral t k) f in
      let same : p.0 ≡ q.0 = same_Some p.0 q.0 (sym p.1 ∙ q.1) in
      omega (arith, p.2, q.2, ap arity same)

  two_sides : (a T : SimpleType) → constant_type scope (equality a) ≡ Some T → arity T ≡ 2
  two_sides a T e = go (is_declared scope.bases a) e
    where
      go : (b : Bool) → (if b then Some (arrow a (predicate a)) else None) ≡ Some T → arity T ≡ 2
      go true f = ap arity (sym (same_Some (arrow a (predicate a)) T f))
      go false f = cc

  -- an equation has two sides
  pub count-equation : (t : Lambda) (a : SimpleType) → IsCanonical scope [] formula t → head_of t ≡ constant (equality a) → count t ≡ 2
  count-equation t a h e =
      let p = head_type t formula (equality a) (formula_neutral t h) e in
      omega (arith, p.2, two_sides a p.0 p.1)

pub is_application-count : (t : Lambda) → is_application t ≡ true → 1 ≤ count t
is_application-count (app s u) e = omega arith
is_application-count (bound k) e = cc
is_application-count (constant c) e = cc
is_application-count (lam a s) e = cc

pub count-is_application : (t : Lambda) → 1 ≤ count t → is_application t ≡ true
count-is_application (app s u) h = refl
count-is_application (bound k) h = absurd (omega (arith, h))
count-is_application (constant c) h = absurd (omega (arith, h))
count-is_application (lam a s) h = absurd (omega (arith, h))

-- a constant with two arguments
pub two_arguments : (t : Lambda) (c : Constant) → head_of t ≡ constant c → count t ≡ 2 → (s : Lambda) × (u : Lambda) × (t ≡ app (app (constant c) s) u)
two_arguments (bound k) c e n = absurd (omega (arith, n))
two_arguments (constant d) c e n = absurd (omega (arith, n))
two_arguments (lam a s) c e n = absurd (omega (arith, n))
two_arguments (app (bound k) u) c e n = absurd (omega (arith, n))
two_arguments (app (constant d) u) c e n = absurd (omega (arith, n))
two_arguments (app (lam a s) u) c e n = absurd (omega (arith, n))
two_arguments (app (app (bound k) s) u) c e n = cc
two_arguments (app (app (constant d) s) u) c e n = (s, u, ap (λ h. app (app h s) u) e)
two_arguments (app (app (lam a v) s) u) c e n = cc
two_arguments (app (app (app f v) s) u) c e n = absurd (omega (arith, n))
