-- The head under which a literal is kept, and its partners.
use Rattle.std.specs.Prelude.{◌≡◌, ◌&&◌, ◌⊎◌, ℕ, zero, suc, Bool, true, false, List, [], ◌∷◌, map, Option, Some, None, refl, if◌then◌else◌}
use Rattle.std.proofs.Common.{sym, ap, ap₂, ◌∙◌, true≢false, arith, inl, inr}
use Rattle.stt_core.specs.SimpleType.{base, arrow, formula}
use Rattle.stt_core.specs.Lambda.{Constant, name, witness, falsity, negation, implication, all, equality, choice, description, Lambda, bound, constant, lam, app, applied}
use Rattle.stt_core.specs.Typing.{Scope}
use Rattle.stt_core.specs.Canonical.{IsCanonical}
use Rattle.stt_core.specs.SameTerm.{same_term, same_constant}
use Rattle.stt_core.proofs.SameTerms.{same_term-true, same_term-of}
use Rattle.stt_core.proofs.SpineLaws.{IsAtom}
use Rattle.search_spec.specs.Spine.{head_of, is_compared, has_compared_head, is_application, same_head}
use Rattle.search_spec.specs.Partners.{equates_on}
use Rattle.search_spec.proofs.SpineLaws.{equation_is}
use Rattle.term_bank.specs.Shape.{Shape, abstraction, spine}
use Rattle.term_bank.specs.Terms.{term_at, shape_term}
use Rattle.mating_rules.specs.Noted.{pairs, has_pairing_head, equates_alike, are_partners}
use Rattle.mating_rules.specs.Internal.Pairing.{is_pairing, pairing_head}
use Rattle.mating_rules.proofs.ArityLaws.{count-same, count-equation, is_application-count, count-is_application, two_arguments}

and_false : (b : Bool) → (b && false) ≡ false
and_false true = refl
and_false false = refl

differ : (c : Constant) (t : Lambda) → (constant c ≡ t → ⊥) → same_term (constant c) t ≡ false
differ c t never = go (same_term (constant c) t) refl
  where
    go : (b : Bool) → same_term (constant c) t ≡ b → b ≡ false
    go true e = absurd (never (same_term-true (constant c) t e))
    go false e = refl

-- CONSTANTS WHOSE FORMULAS MAY HAVE PARTNERS

-- the constant is compared, or it is the equality on a base type other than that of formulas
abbrev Pairs : Constant → Type 0
Pairs c = (is_compared c ≡ true) ⊎ ((n : ℕ) × (c ≡ equality (base (suc n))))

pairs_is : (c : Constant) → pairs c ≡ true → Pairs c
pairs_is (name k) e = inl refl
pairs_is (witness k) e = inl refl
pairs_is (choice a) e = inl refl
pairs_is (description a) e = inl refl
pairs_is falsity e = cc
pairs_is negation e = cc
pairs_is implication e = cc
pairs_is (all a) e = cc
pairs_is (equality (base zero)) e = cc
pairs_is (equality (base (suc n))) e = inr (n, refl)
pairs_is (equality (arrow a b)) e = cc

pairs_not : (c : Constant) → pairs c ≡ false → is_compared c ≡ false
pairs_not (name k) e = e
pairs_not (witness k) e = e
pairs_not (choice a) e = e
pairs_not (description a) e = e
pairs_not falsity e = refl
pairs_not negation e = refl
pairs_not implication e = refl
pairs_not (all a) e = refl
pairs_not (equality (base zero)) e = refl
pairs_not (equality (base (suc n))) e = refl
pairs_not (equality (arrow a b)) e = refl

-- EQUATIONS

-- a formula that has equations as partners is one
equates_alike_is : (t u : Lambda) → equates_alike t u ≡ true → (n : ℕ) × (head_of t ≡ constant (equality (base (suc n))))
equates_alike_is (bound k) u e = cc
equates_alike_is (constant c) u e = cc
equates_alike_is (lam b s) u e = cc
equates_alike_is (app (bound k) v) u e = cc
equates_alike_is (app (constant c) v) u e = cc
equates_alike_is (app (lam b s) v) u e = cc
equates_alike_is (app (app (bound k) w) v) u e = cc
equates_alike_is (app (app (lam b s) w) v) u e = cc
equates_alike_is (app (app (app s x) w) v) u e = cc
equates_alike_is (app (app (constant (name k)) w) v) u e = cc
equates_alike_is (app (app (constant (witness k)) w) v) u e = cc
equates_alike_is (app (app (constant falsity) w) v) u e = cc
equates_alike_is (app (app (constant negation) w) v) u e = cc
equates_alike_is (app (app (constant implication) w) v) u e = cc
equates_alike_is (app (app (constant (all b)) w) v) u e = cc
equates_alike_is (app (app (constant (choice b)) w) v) u e = cc
equates_alike_is (app (app (constant (description b)) w) v) u e = cc
equates_alike_is (app (app (constant (equality (base zero))) w) v) u e = cc
equates_alike_is (app (app (constant (equality (arrow a b))) w) v) u e = cc
equates_alike_is (app (app (constant (equality (base (suc n)))) w) v) u e = (n, refl)

module _ (scope : Scope) where
  abbrev Formula : Lambda → Type 0
  Formula t = IsCanonical scope [] formula t

  -- a formula is an equation on the type exactly where its head is the equality on it
  equates-head : (n : ℕ) (u : Lambda) → Formula u → equates_on (base (suc n)) u ≡ has_pairing_head (constant (equality (base (suc n)))) u
  equates-head n u h = go (same_term (constant c) (head_of u)) refl
    where
      c : Constant
      c = equality (base (suc n))

      go : (b : Bool) → same_term (constant (equality (base (suc n)))) (head_of u) ≡ b → equates_on (base (suc n)) u ≡ has_pairing_head (constant (equality (base (suc n)))) u
      go true e =
          let k : head_of u ≡ constant (equality (base (suc n))) = sym (same_term-true (constant (equality (base (suc n)))) (head_of u) e) in
          let p = two_arguments u (equality (base (suc n))) k (count-equation scope u (base (suc n)) h k) in
          ap (equates_on (base (suc n))) p.2 ∙ sym (ap (has_pairing_head (constant (equality (base (suc n))))) p.2)
      go false e = none (equates_on (base (suc n)) u) refl ∙ sym (ap (λ b. is_application u && b) e ∙ and_false (is_application u))
        where
          none : (b : Bool) → equates_on (base (suc n)) u ≡ b → b ≡ false
          none true f =
              let p = equation_is (base (suc n)) u f in
              absurd (true≢false (sym (same_term-of (constant (equality (base (suc n)))) (head_of u) (sym (ap head_of p.2))) ∙ e))
          none false f = refl

  module _ (t : Lambda) (c : Constant) (h : Formula t) (at : head_of t ≡ constant c) (applies : is_application t ≡ true) (pairing : pairs c ≡ true) where
    -- the heads that the formula has
    pub head-kept : (k : Lambda) → has_pairing_head k t ≡ same_term k (constant c)
    head-kept (bound j) = refl
    head-kept (lam a s) = refl
    head-kept (app s u) = refl
    head-kept (constant d) =
        ap₂ (λ b u. pairs d && (b && same_term (constant d) u)) applies at ∙ go (same_constant d c) refl
      where
        go : (b : Bool) → same_constant d c ≡ b → (pairs d && b) ≡ b
        go true e =
            let same : constant d ≡ constant c = same_term-true (constant d) (constant c) e in
            let P : Lambda → Bool = is_pairing in
            ap (λ b. b && true) (ap P same ∙ pairing)
        go false e = and_false (pairs d)

    -- a formula with the head of another one has arguments where that has
    spine-head : (u : Lambda) → Formula u → same_term (constant c) (head_of u) ≡ has_pairing_head (constant c) u
    spine-head u k = go (same_term (constant c) (head_of u)) refl
      where
        go : (b : Bool) → same_term (constant c) (head_of u) ≡ b → b ≡ (pairs c && (is_application u && b))
        go true e =
            let f : head_of u ≡ constant c = sym (same_term-true (constant c) (head_of u) e) in
            let many = count-same scope t u c h k at f in
            let some : is_application u ≡ true = count-is_application u (omega (arith, many, is_application-count t applies)) in
            sym (ap₂ (λ p q. p && (q && true)) pairing some)
        go false e = sym (ap (λ b. pairs c && b) (and_false (is_application u)) ∙ and_false (pairs c))

    -- a formula's partners are those with its head
    pub partners-head : (u : Lambda) → Formula u → are_partners t u ≡ has_pairing_head (constant c) u
    partners-head u k =
        ap₂ (λ b v. if b && has_compared_head v then same_term v (head_of u) else equates_alike t u) applies at ∙ go (pairs_is c pairing)
      where
        go : Pairs c → (if is_compared c then same_term (constant c) (head_of u) else equates_alike t u) ≡ has_pairing_head (constant c) u
        go (inl e) = ap (λ (b : Bool). if b then same_term (constant c) (head_of u) else equates_alike t u) e ∙ spine-head u k
        go (inr (n, e)) =
            let at' : head_of t ≡ constant (equality (base (suc n))) = at ∙ ap constant e in
            let p = two_arguments t (equality (base (suc n))) at' (count-equation scope t (base (suc n)) h at') in
            ap (λ d. if is_compared d then same_term (constant d) (head_of u) else equates_alike t u) e
            ∙ ap (λ v. equates_alike v u) p.2 ∙ equates-head n u k ∙ ap (λ d. has_pairing_head (constant d) u) (sym e)

-- FORMULAS WITHOUT PARTNERS

-- the formula is kept under no head, and has no partners
pub record HasNone (t : Lambda) : Type 0 where
  pub kept : (k : Lambda) → has_pairing_head k t ≡ false
  pub partners : (u : Lambda) → are_partners t u ≡ false

lone : (t : Lambda) → is_application t ≡ false → equates_alike t ≡ (λ u. false) → HasNone t
lone t a e = record { kept = kept; partners = λ u. ap (λ b. if b && has_compared_head (head_of t) then same_head t u else equates_alike t u) a ∙ ap (λ (f : Lambda → Bool). f u) e }
  where
    kept : (k : Lambda) → has_pairing_head k t ≡ false
    kept (bound j) = refl
    kept (lam b s) = refl
    kept (app s u) = refl
    kept (constant d) = ap (λ b. pairs d && (b && same_term (constant d) (head_of t))) a ∙ and_false (pairs d)

pub other-head : (t : Lambda) → is_pairing (head_of t) ≡ false → HasNone t
other-head t e = record { kept = kept; partners = λ u. uncompared u ∙ unequal u }
  where
    kept : (k : Lambda) → has_pairing_head k t ≡ false
    kept (bound j) = refl
    kept (lam b s) = refl
    kept (app s u) = refl
    kept (constant d) = go (same_term (constant d) (head_of t)) refl
      where
        go : (b : Bool) → same_term (constant d) (head_of t) ≡ b → (pairs d && (is_application t && b)) ≡ false
        go true f = ap (λ (b : Bool). b && (is_application t && true)) (ap is_pairing (same_term-true (constant d) (head_of t) f) ∙ e)
        go false f = ap (λ b. pairs d && b) (and_false (is_application t)) ∙ and_false (pairs d)

    compared : (h : Lambda) → is_pairing h ≡ false → has_compared_head h ≡ false
    compared (constant c) f = pairs_not c f
    compared (bound k) f = refl
    compared (lam a s) f = refl
    compared (app s u) f = refl

    uncompared : (u : Lambda) → are_partners t u ≡ equates_alike t u
    uncompared u = ap (λ (b : Bool). if b then same_head t u else equates_alike t u) (ap (λ b. is_application t && b) (compared (head_of t) e) ∙ and_false (is_application t))

    unequal : (u : Lambda) → equates_alike t u ≡ false
    unequal u = go (equates_alike t u) refl
      where
        go : (b : Bool) → equates_alike t u ≡ b → b ≡ false
        go true f = let p = equates_alike_is t u f in absurd (true≢false (sym (ap is_pairing p.1) ∙ e))
        go false f = refl

leaf_alone : (h : Lambda) → IsAtom h → HasNone h
leaf_alone (bound k) o = lone (bound k) refl refl
leaf_alone (constant c) o = lone (constant c) refl refl
leaf_alone (lam a s) o = absurd o
leaf_alone (app s u) o = absurd o

head_of-applied : (t : Lambda) (us : List Lambda) → head_of (applied t us) ≡ head_of t
head_of-applied t [] = refl
head_of-applied t (u ∷ us) = head_of-applied (app t u) us

is_application-applied : (t u : Lambda) (us : List Lambda) → is_application (applied (app t u) us) ≡ true
is_application-applied t u [] = refl
is_application-applied t u (v ∷ us) = is_application-applied (app t u) v us

leaf_head : (h : Lambda) → IsAtom h → head_of h ≡ h
leaf_head (bound k) o = refl
leaf_head (constant c) o = refl
leaf_head (lam a s) o = absurd o
leaf_head (app s u) o = absurd o

-- what is known of a formula that is kept under a head
pub record IsUnder (t h : Lambda) : Type 0 where
  pub head : Constant
  pub is : h ≡ constant head
  pub at : head_of t ≡ constant head
  pub applies : is_application t ≡ true
  pub pairing : pairs head ≡ true

-- what is known of a formula, where this is its head for partners
abbrev pub IsHeadOf : Lambda → Option Lambda → Type 0
IsHeadOf t None = HasNone t
IsHeadOf t (Some h) = IsUnder t h

pairing_is : (h : Lambda) → is_pairing h ≡ true → (c : Constant) × (h ≡ constant c)
pairing_is (constant c) e = (c, refl)
pairing_is (bound k) e = cc
pairing_is (lam a s) e = cc
pairing_is (app s u) e = cc

pub head_of-shape : (scope : Scope) (terms : List Lambda) (s : Shape) (o : (h : Lambda) (is : List ℕ) → s ≡ spine h is → IsAtom h) → IsCanonical scope [] formula (shape_term terms s) → IsHeadOf (shape_term terms s) (pairing_head s)
head_of-shape scope terms (abstraction a i) o f = absurd f.1
head_of-shape scope terms (spine h []) o f = leaf_alone h (o h [] refl)
head_of-shape scope terms (spine h (i ∷ is)) o f = go (is_pairing h) refl
  where
    t : Lambda
    t = applied (app h (term_at terms i)) (map (term_at terms) is)

    go : (b : Bool) → is_pairing h ≡ b → IsHeadOf (applied (app h (term_at terms i)) (map (term_at terms) is)) (if b then Some h else None)
    go true e =
        let c = pairing_is h e in
        record {
          head = c.0;
          is = c.1;
          at = head_of-applied (app h (term_at terms i)) (map (term_at terms) is) ∙ leaf_head h (o h (i ∷ is) refl) ∙ c.1;
          applies = is_application-applied h (term_at terms i) (map (term_at terms) is);
          pairing = ap is_pairing (sym c.1) ∙ e;
        }
    go false e = other-head _ (ap is_pairing (head_of-applied (app h (term_at terms i)) (map (term_at terms) is) ∙ leaf_head h (o h (i ∷ is) refl)) ∙ e)
