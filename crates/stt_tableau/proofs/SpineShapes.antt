-- When a term is a constant with arguments.
use Rattle.std.proofs.Common.{◌≡◌, ◌≤◌, ◌<◌, List, [], ◌∷◌, Some, None, length, slice_get, refl, sym, ap, ap₂, ◌∙◌, arith}
use Rattle.stt_core.specs.SimpleType.{SimpleType}
use Rattle.stt_core.specs.Lambda.{Constant, name, witness, falsity, negation, implication, all, equality, choice, description, Lambda, bound, constant, lam, app, eq, every, lambdas, applied}
use Rattle.stt_core.proofs.SpineLaws.{IsAtom, SameParts, parts}
use Rattle.tableau_calculus.specs.Rules.{IsDecomposed}
use Rattle.tableau_calculus.specs.Internal.Heads.{equality_of, quantified_by, IsDecomposedHead}

no_binders : (bs : List SimpleType) → length bs ≤ 0 → bs ≡ []
no_binders [] l = refl
no_binders (b ∷ bs) l = absurd (omega (arith, l))

two : (us : List Lambda) (s t : Lambda) → length us ≡ 2 → slice_get us 0 ≡ Some s → slice_get us 1 ≡ Some t → us ≡ s ∷ t ∷ []
two [] s t n e f = absurd (omega (arith, n))
two (v ∷ []) s t n e f = absurd (omega (arith, n))
two (v ∷ w ∷ []) s t n e f = let p : v ≡ s = cc in let q : w ≡ t = cc in ap₂ (λ x y. x ∷ y ∷ []) p q
two (v ∷ w ∷ x ∷ us) s t n e f = absurd (omega (arith, n))

one : (us : List Lambda) (s : Lambda) → length us ≡ 1 → slice_get us 0 ≡ Some s → us ≡ s ∷ []
one [] s n e = absurd (omega (arith, n))
one (v ∷ []) s n e = let p : v ≡ s = cc in ap (λ x. x ∷ []) p
one (v ∷ w ∷ us) s n e = absurd (omega (arith, n))

quantifier_head : (h : Lambda) (a : SimpleType) → quantified_by h ≡ Some a → h ≡ constant (all a)
quantifier_head (bound j) a e = cc
quantifier_head (lam b s) a e = cc
quantifier_head (app s u) a e = cc
quantifier_head (constant (name j)) a e = cc
quantifier_head (constant (witness j)) a e = cc
quantifier_head (constant falsity) a e = cc
quantifier_head (constant negation) a e = cc
quantifier_head (constant implication) a e = cc
quantifier_head (constant (all b)) a e = let same : b ≡ a = cc in ap (λ x. constant (all x)) same
quantifier_head (constant (equality b)) a e = cc
quantifier_head (constant (choice b)) a e = cc
quantifier_head (constant (description b)) a e = cc

equality_head : (h : Lambda) (a : SimpleType) → equality_of h ≡ Some a → h ≡ constant (equality a)
equality_head (bound j) a e = cc
equality_head (lam b s) a e = cc
equality_head (app s u) a e = cc
equality_head (constant (name j)) a e = cc
equality_head (constant (witness j)) a e = cc
equality_head (constant falsity) a e = cc
equality_head (constant negation) a e = cc
equality_head (constant implication) a e = cc
equality_head (constant (all b)) a e = cc
equality_head (constant (equality b)) a e = let same : b ≡ a = cc in ap (λ x. constant (equality x)) same
equality_head (constant (choice b)) a e = cc
equality_head (constant (description b)) a e = cc

module _ (bs : List SimpleType) (h : Lambda) (us : List Lambda) (whole : Lambda) (atom : IsAtom h) (view : lambdas bs (applied h us) ≡ whole) where
  -- the parts of a term that is a constant with arguments
  pub spine_parts : (c : Constant) (vs : List Lambda) → whole ≡ applied (constant c) vs → SameParts bs [] h (constant c) us vs
  spine_parts c vs e = parts bs [] h (constant c) us vs atom tt (view ∙ e)

  -- a term without binders is its head with its arguments
  pub spine_is : length bs ≤ 0 → (k : Lambda) → h ≡ k → (vs : List Lambda) → us ≡ vs → whole ≡ applied k vs
  spine_is unbound k e vs f = sym view ∙ ap₂ lambdas (no_binders bs unbound) (ap₂ applied e f)

  pub no_equation-binders : 0 < length bs → (a : SimpleType) (s t : Lambda) → whole ≡ eq a s t → ⊥
  no_equation-binders some a s t e = absurd (omega (arith, some, ap length (spine_parts (equality a) (s ∷ t ∷ []) e).binders))

  pub no_equation-count : (length us ≡ 2 → ⊥) → (a : SimpleType) (s t : Lambda) → whole ≡ eq a s t → ⊥
  no_equation-count count a s t e = count (ap length (spine_parts (equality a) (s ∷ t ∷ []) e).arguments)

  pub no_equation-head : None ≡ equality_of h → (a : SimpleType) (s t : Lambda) → whole ≡ eq a s t → ⊥
  no_equation-head none a s t e = let p : None ≡ Some a = none ∙ ap equality_of (spine_parts (equality a) (s ∷ t ∷ []) e).head in cc

  pub is_equation : length bs ≤ 0 → (a : SimpleType) (s t : Lambda) → Some a ≡ equality_of h → length us ≡ 2 → slice_get us 0 ≡ Some s → slice_get us 1 ≡ Some t → whole ≡ eq a s t
  is_equation unbound a s t e n f g = spine_is unbound (constant (equality a)) (equality_head h a (sym e)) (s ∷ t ∷ []) (two us s t n f g)

  pub not_quantified-binders : 0 < length bs → (a : SimpleType) (f : Lambda) → whole ≡ every a f → ⊥
  not_quantified-binders some a f e = absurd (omega (arith, some, ap length (spine_parts (all a) (f ∷ []) e).binders))

  pub not_quantified-count : (length us ≡ 1 → ⊥) → (a : SimpleType) (f : Lambda) → whole ≡ every a f → ⊥
  not_quantified-count count a f e = count (ap length (spine_parts (all a) (f ∷ []) e).arguments)

  pub not_quantified-head : None ≡ quantified_by h → (a : SimpleType) (f : Lambda) → whole ≡ every a f → ⊥
  not_quantified-head none a f e = let p : None ≡ Some a = none ∙ ap quantified_by (spine_parts (all a) (f ∷ []) e).head in cc

  pub is_quantified : length bs ≤ 0 → (a : SimpleType) (f : Lambda) → Some a ≡ quantified_by h → length us ≡ 1 → slice_get us 0 ≡ Some f → whole ≡ every a f
  is_quantified unbound a f e n g = spine_is unbound (constant (all a)) (quantifier_head h a (sym e)) (f ∷ []) (one us f n g)

  pub no_spine-binders : 0 < length bs → (c : Constant) (s : Lambda) (ss : List Lambda) → IsDecomposed c → whole ≡ applied (constant c) (s ∷ ss) → ⊥
  no_spine-binders some c s ss d e = absurd (omega (arith, some, ap length (spine_parts c (s ∷ ss) e).binders))

  pub no_spine-count : length us ≡ 0 → (c : Constant) (s : Lambda) (ss : List Lambda) → IsDecomposed c → whole ≡ applied (constant c) (s ∷ ss) → ⊥
  no_spine-count none c s ss d e = absurd (omega (arith, none, ap length (spine_parts c (s ∷ ss) e).arguments))

  pub no_spine-head : (IsDecomposedHead h → ⊥) → (c : Constant) (s : Lambda) (ss : List Lambda) → IsDecomposed c → whole ≡ applied (constant c) (s ∷ ss) → ⊥
  no_spine-head other c s ss d e = other (c, d, (spine_parts c (s ∷ ss) e).head)

  pub is_spine : length bs ≤ 0 → (length us ≡ 0 → ⊥) → IsDecomposedHead h → (c : Constant) × (s : Lambda) × (ss : List Lambda) × IsDecomposed c × (h ≡ constant c) × (us ≡ s ∷ ss) × (whole ≡ applied (constant c) (s ∷ ss))
  is_spine unbound some (c, d, e) = go us refl some
    where
      go : (vs : List Lambda) → us ≡ vs → (length vs ≡ 0 → ⊥) → (k : Constant) × (s : Lambda) × (ss : List Lambda) × IsDecomposed k × (h ≡ constant k) × (us ≡ s ∷ ss) × (whole ≡ applied (constant k) (s ∷ ss))
      go [] f n = absurd (n refl)
      go (v ∷ vs) f n = (c, v, vs, d, e, f, spine_is unbound (constant c) e (v ∷ vs) f)
