-- A formula's literal says what its value is.
use Rattle.std.proofs.Common.{◌≡◌, ℕ, ◌-◌, ◌<◌, List, [], ◌∷◌, ◌++◌, refl, ap, subst, sym, ◌∙◌, Bool, true, false, not, arith, ◌⊎◌, inl, inr}
use Rattle.stt_core.specs.SimpleType.{formula}
use Rattle.stt_core.specs.Lambda.{name, witness, falsity, negation, implication, all, equality, choice, description, Lambda, bound, constant, lam, app, neg, imp}
use Rattle.stt_core.specs.Typing.{Scope}
use Rattle.stt_core.specs.Canonical.{IsCanonical}
use Rattle.stt_core.specs.Meaning.{Model, value, IsModel}
use Rattle.stt_core.proofs.TypeLaws.{type_of-canonical}
use Rattle.stt_core.proofs.ValueLaws.{value-lt}
use Rattle.stt_core.proofs.ConstantValues.{value-neg, bit}
use Rattle.tableau_calculus.specs.Literals.{Literal, plus, opposite, as_literal, is_negated, IsLiteral, IsBranch}
use Rattle.tableau_calculus.specs.Meets.{truth, MeetsLiteral, MeetsBranch}

-- what holds of a formula and its literal, where negation passes it on and it holds of what isn't negated
pub literal_cases : (P : Lambda → Literal → Type 0) → ((s : Lambda) → P s (as_literal s) → P (neg s) (opposite (as_literal s))) → ((t : Lambda) → is_negated t ≡ false → P t (plus t)) → (t : Lambda) → P t (as_literal t)
literal_cases P step rest (bound k) = rest (bound k) refl
literal_cases P step rest (constant c) = rest (constant c) refl
literal_cases P step rest (lam a s) = rest (lam a s) refl
literal_cases P step rest (app (bound k) u) = rest (app (bound k) u) refl
literal_cases P step rest (app (lam a s) u) = rest (app (lam a s) u) refl
literal_cases P step rest (app (app s v) u) = rest (app (app s v) u) refl
literal_cases P step rest (app (constant (name k)) u) = rest (app (constant (name k)) u) refl
literal_cases P step rest (app (constant (witness k)) u) = rest (app (constant (witness k)) u) refl
literal_cases P step rest (app (constant falsity) u) = rest (app (constant falsity) u) refl
literal_cases P step rest (app (constant negation) u) = step u (literal_cases P step rest u)
literal_cases P step rest (app (constant implication) u) = rest (app (constant implication) u) refl
literal_cases P step rest (app (constant (all a)) u) = rest (app (constant (all a)) u) refl
literal_cases P step rest (app (constant (equality a)) u) = rest (app (constant (equality a)) u) refl
literal_cases P step rest (app (constant (choice a)) u) = rest (app (constant (choice a)) u) refl
literal_cases P step rest (app (constant (description a)) u) = rest (app (constant (description a)) u) refl

not_twice : (b : Bool) → not (not b) ≡ b
not_twice true = refl
not_twice false = refl

pub opposite_twice : (l : Literal) → opposite (opposite l) ≡ l
opposite_twice l = ap (λ b. record { positive = b; atom = l.atom }) (not_twice l.positive)

-- the literal is met where the value is 1, and its opposite where the value is 0
pub record Says (scope : Scope) (m : Model) (l : Literal) (v : ℕ) : Type 0 where
  pub at_one : v ≡ 1 → MeetsLiteral scope m l
  pub at_zero : v ≡ 0 → MeetsLiteral scope m (opposite l)

module _ (scope : Scope) where
  -- what a negated canonical formula negates
  pub neg_canonical : (s : Lambda) → IsCanonical scope [] formula (neg s) → IsCanonical scope [] formula s
  neg_canonical s h =
      let e : h.1.0 ≡ formula = cc in
      subst (λ c. IsCanonical scope [] c s) e h.1.2

  -- the two sides of a canonical implication
  pub imp_canonical : (s t : Lambda) → IsCanonical scope [] formula (imp s t) → IsCanonical scope [] formula s × IsCanonical scope [] formula t
  imp_canonical s t h =
      let e : h.1.0 ≡ formula = cc in
      let f : h.1.1.0 ≡ formula = cc in
      (subst (λ c. IsCanonical scope [] c s) f h.1.1.2, subst (λ c. IsCanonical scope [] c t) e h.1.2)

  pub opposite-is_literal : (l : Literal) → IsLiteral scope l → IsLiteral scope (opposite l)
  opposite-is_literal l h = record { formula = h.formula; unsigned = h.unsigned }

  pub as_literal-is_literal : (t : Lambda) → IsCanonical scope [] formula t → IsLiteral scope (as_literal t)
  as_literal-is_literal =
      literal_cases (λ t l. IsCanonical scope [] formula t → IsLiteral scope l)
      (λ s inside h. opposite-is_literal (as_literal s) (inside (neg_canonical s h)))
      (λ t unsigned h. record { formula = h; unsigned = unsigned })

  pub branch-append : (ls branch : List Literal) → IsBranch scope ls → IsBranch scope branch → IsBranch scope (ls ++ branch)
  branch-append [] branch h k = k
  branch-append (l ∷ ls) branch h k = (h.0, branch-append ls branch h.1 k)

module _ (scope : Scope) (m : Model) (good : IsModel scope m) where
  says_opposite : (l : Literal) (v w : ℕ) → v < 2 → w ≡ 1 - v → Says scope m l v → Says scope m (opposite l) w
  says_opposite l v w b e s = record {
    at_one = λ h. s.at_zero (omega arith);
    at_zero = λ h. subst (MeetsLiteral scope m) (sym (opposite_twice l)) (s.at_one (omega arith));
  }

  -- the value of a closed canonical formula is 0 or 1
  pub value-bit : (t : Lambda) → IsCanonical scope [] formula t → value scope m [] [] t < 2
  value-bit t h = value-lt scope m good [] [] formula t (type_of-canonical scope [] formula t h) tt

  -- the literal of a closed canonical formula says what its value is
  pub as_literal-says : (t : Lambda) → IsCanonical scope [] formula t → Says scope m (as_literal t) (value scope m [] [] t)
  as_literal-says =
      literal_cases (λ t l. IsCanonical scope [] formula t → Says scope m l (value scope m [] [] t))
      (λ s inside h.
      let c = neg_canonical scope s h in
      says_opposite (as_literal s) (value scope m [] [] s) (value scope m [] [] (neg s)) (value-bit s c) (value-neg scope m good [] [] tt s (type_of-canonical scope [] formula s c)) (inside c))
      (λ t unsigned h. record { at_one = λ e. e; at_zero = λ e. e })

  -- a literal or its opposite is met
  pub literal_or_opposite : (l : Literal) → IsLiteral scope l → MeetsLiteral scope m l ⊎ MeetsLiteral scope m (opposite l)
  literal_or_opposite l h = go l.positive (bit (value scope m [] [] l.atom) (value-bit l.atom h.formula))
    where
      go : (b : Bool) → (value scope m [] [] l.atom ≡ 0) ⊎ (value scope m [] [] l.atom ≡ 1) → (value scope m [] [] l.atom ≡ truth b) ⊎ (value scope m [] [] l.atom ≡ truth (not b))
      go true (inl e) = inr e
      go true (inr e) = inl e
      go false (inl e) = inl e
      go false (inr e) = inr e

-- no model meets a literal and its opposite
pub not_both : (scope : Scope) (m : Model) (l : Literal) → MeetsLiteral scope m l → MeetsLiteral scope m (opposite l) → ⊥
not_both scope m l h k = go l.positive (sym h ∙ k)
  where
    go : (b : Bool) → truth b ≡ truth (not b) → ⊥
    go true e = absurd (omega arith)
    go false e = absurd (omega arith)

pub meets-append : (scope : Scope) (m : Model) (ls branch : List Literal) → MeetsBranch scope m ls → MeetsBranch scope m branch → MeetsBranch scope m (ls ++ branch)
meets-append scope m [] branch h k = k
meets-append scope m (l ∷ ls) branch h k = (h.0, meets-append scope m ls branch h.1 k)
