-- Equations between canonical terms, and when a model meets them.
use Rattle.std.proofs.Common.{◌≡◌, ℕ, List, [], Some, None, refl, sym, ap, subst, ◌∙◌, Bool, true, false, nat_eq, if◌then◌else◌, ◌⊎◌, inl, inr, eqb-true, eq-eqb, arith}
use Rattle.stt_core.specs.SimpleType.{SimpleType, arrow, formula, predicate, is_declared}
use Rattle.stt_core.specs.Lambda.{Lambda, eq}
use Rattle.stt_core.specs.Typing.{Scope}
use Rattle.stt_core.specs.Canonical.{IsCanonical}
use Rattle.stt_core.specs.Meaning.{Model, value, IsModel}
use Rattle.stt_core.proofs.TypeLaws.{type_of-canonical, given}
use Rattle.stt_core.proofs.ConstantValues.{value-eq}
use Rattle.tableau_calculus.specs.Literals.{plus, minus, IsLiteral}
use Rattle.tableau_calculus.specs.Meets.{MeetsLiteral}

-- the type of a canonical equation is declared, and its sides are canonical and have it
pub record Sides (scope : Scope) (ctx : List SimpleType) (a : SimpleType) (s t : Lambda) : Type 0 where
  pub declared : is_declared scope.bases a ≡ true
  pub left : IsCanonical scope ctx a s
  pub right : IsCanonical scope ctx a t

module _ (scope : Scope) (a : SimpleType) (s t : Lambda) where
  pub eq_canonical : IsCanonical scope [] formula (eq a s t) → Sides scope [] a s t
  eq_canonical h =
      let g = given scope a (arrow a (predicate a)) (arrow h.1.1.0 (arrow h.1.0 formula)) h.1.1.1 in
      let is = g.is in
      let p : h.1.1.0 ≡ a = cc in
      let q : h.1.0 ≡ a = cc in
      record { declared = g.declared; left = subst (λ c. IsCanonical scope [] c s) p h.1.1.2; right = subst (λ c. IsCanonical scope [] c t) q h.1.2 }

  pub canonical-eq : (ctx : List SimpleType) → Sides scope ctx a s t → IsCanonical scope ctx formula (eq a s t)
  canonical-eq ctx e =
      (tt, (a, (a, ap (λ b. if b then Some (arrow a (predicate a)) else None) e.declared, e.left), e.right))

  -- that the sides differ is a literal
  pub differ-is_literal : Sides scope [] a s t → IsLiteral scope (minus (eq a s t))
  differ-is_literal e = record { formula = canonical-eq [] e; unsigned = refl }

-- two numbers are the same or not
pub same_or_not : (x y : ℕ) → (x ≡ y) ⊎ (x ≡ y → ⊥)
same_or_not x y = go (nat_eq x y) refl
  where
    go : (b : Bool) → nat_eq x y ≡ b → (x ≡ y) ⊎ (x ≡ y → ⊥)
    go true e = inl (eqb-true x y e)
    go false e = inr (λ q. let p : nat_eq x y ≡ true = eq-eqb x y q in cc)

abbrev pub test : Bool → ℕ
test b = if b then 1 else 0

pub test_one : (x y : ℕ) → test (nat_eq x y) ≡ 1 → x ≡ y
test_one x y h = go (nat_eq x y) refl h
  where
    go : (b : Bool) → nat_eq x y ≡ b → test b ≡ 1 → x ≡ y
    go true e k = eqb-true x y e
    go false e k = absurd (omega arith)

test_zero : (x y : ℕ) → (x ≡ y → ⊥) → test (nat_eq x y) ≡ 0
test_zero x y n = go (nat_eq x y) refl
  where
    go : (b : Bool) → nat_eq x y ≡ b → test b ≡ 0
    go true e = absurd (n (eqb-true x y e))
    go false e = refl

module _ (scope : Scope) (m : Model) (good : IsModel scope m) (a : SimpleType) (s t : Lambda) (sides : Sides scope [] a s t) where
  value-eq-canonical : value scope m [] [] (eq a s t) ≡ test (nat_eq (value scope m [] [] s) (value scope m [] [] t))
  value-eq-canonical =
      value-eq scope m good [] [] tt a s t (record { declared = sides.declared; left = type_of-canonical scope [] a s sides.left; right = type_of-canonical scope [] a t sides.right })

  -- a met equation has one value at both sides
  pub met-eq : MeetsLiteral scope m (plus (eq a s t)) → value scope m [] [] s ≡ value scope m [] [] t
  met-eq h = test_one (value scope m [] [] s) (value scope m [] [] t) (sym value-eq-canonical ∙ h)

  pub meets-eq : value scope m [] [] s ≡ value scope m [] [] t → MeetsLiteral scope m (plus (eq a s t))
  meets-eq e = value-eq-canonical ∙ ap test (eq-eqb (value scope m [] [] s) (value scope m [] [] t) e)

  -- an equation whose negation is met has two
  pub met-differ : MeetsLiteral scope m (minus (eq a s t)) → value scope m [] [] s ≡ value scope m [] [] t → ⊥
  met-differ h e = absurd (omega (arith, h, meets-eq e))

  pub meets-differ : (value scope m [] [] s ≡ value scope m [] [] t → ⊥) → MeetsLiteral scope m (minus (eq a s t))
  meets-differ n = value-eq-canonical ∙ test_zero (value scope m [] [] s) (value scope m [] [] t) n
