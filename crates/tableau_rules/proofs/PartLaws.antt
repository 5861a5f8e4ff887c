-- The parts of formulas from their heads and arguments.
use Rattle.std.proofs.Common.{◌≡◌, ◌<◌, ℕ, Bool, List, [], ◌∷◌, Some, None, IsTrue, length, map, slice_get, refl, sym, ap, ap₂, ◌∙◌, arith}
use Rattle.std.specs.Prelude.{◌↔◌}
use Rattle.std.proofs.lemmas.List.{length-map}
use Rattle.stt_core.specs.SimpleType.{SimpleType}
use Rattle.stt_core.specs.Lambda.{Constant, name, witness, falsity, negation, implication, all, equality, choice, description, Lambda, bound, constant, lam, app, imp, eq, every, applied}
use Rattle.stt_core.specs.View.{the_head}
use Rattle.stt_core.proofs.SpineLaws.{SameParts, parts, binders-spine, binders_of}
use Rattle.stt_core.proofs.HeadLaws.{atom_head}
use Rattle.tableau_calculus.specs.Internal.Heads.{equality_of, quantified_by}
use Rattle.term_bank.specs.Content.{Content}
use Rattle.term_bank.specs.Terms.{term_at}
use Rattle.bank_normal.proofs.NodeLaws.{within_at}
use Rattle.tableau_rules.specs.Internal.Parts.{IsSpineOf}
use Rattle.tableau_rules.specs.declared.part.Spine.{Spine}

pub function_no_spine : (t : Lambda) (a : SimpleType) (s : Lambda) → t ≡ lam a s → (c : Constant) (us : List Lambda) → t ≡ applied (constant c) us → ⊥
function_no_spine t a s h c us e = let p : a ∷ binders_of s ≡ [] = ap binders_of (sym h ∙ e) ∙ binders-spine [] (constant c) us tt in cc

two_ids : (is : List ℕ) (i j : ℕ) → length is ≡ 2 → slice_get is 0 ≡ Some i → slice_get is 1 ≡ Some j → is ≡ i ∷ j ∷ []
two_ids [] i j n e f = absurd (omega (arith, n))
two_ids (v ∷ []) i j n e f = absurd (omega (arith, n))
two_ids (v ∷ w ∷ []) i j n e f = let p : v ≡ i = cc in let q : w ≡ j = cc in ap₂ (λ x y. x ∷ y ∷ []) p q
two_ids (v ∷ w ∷ x ∷ is) i j n e f = absurd (omega (arith, n))

one_id : (is : List ℕ) (i : ℕ) → length is ≡ 1 → slice_get is 0 ≡ Some i → is ≡ i ∷ []
one_id [] i n e = absurd (omega (arith, n))
one_id (v ∷ []) i n e = let p : v ≡ i = cc in ap (λ x. x ∷ []) p
one_id (v ∷ w ∷ is) i n e = absurd (omega (arith, n))

no_ids : (is : List ℕ) → length is ≡ 0 → is ≡ []
no_ids [] n = refl
no_ids (v ∷ is) n = absurd (omega (arith, n))

quantifier_head : (h : Lambda) (a : SimpleType) → Some a ≡ quantified_by h → h ≡ constant (all a)
quantifier_head (bound j) a e = cc
quantifier_head (lam b s) a e = cc
quantifier_head (app s u) a e = cc
quantifier_head (constant (name j)) a e = cc
quantifier_head (constant (witness j)) a e = cc
quantifier_head (constant falsity) a e = cc
quantifier_head (constant negation) a e = cc
quantifier_head (constant implication) a e = cc
quantifier_head (constant (all b)) a e = let same : b ≡ a = cc in ap (λ x. constant (all x)) same
quantifier_head (constant (equality b)) a e = cc
quantifier_head (constant (choice b)) a e = cc
quantifier_head (constant (description b)) a e = cc

equality_head : (h : Lambda) (a : SimpleType) → Some a ≡ equality_of h → h ≡ constant (equality a)
equality_head (bound j) a e = cc
equality_head (lam b s) a e = cc
equality_head (app s u) a e = cc
equality_head (constant (name j)) a e = cc
equality_head (constant (witness j)) a e = cc
equality_head (constant falsity) a e = cc
equality_head (constant negation) a e = cc
equality_head (constant implication) a e = cc
equality_head (constant (all b)) a e = cc
equality_head (constant (equality b)) a e = let same : b ≡ a = cc in ap (λ x. constant (equality x)) same
equality_head (constant (choice b)) a e = cc
equality_head (constant (description b)) a e = cc

module _ (b : Content) (t : Lambda) (p : Spine) (h : IsSpineOf b t (Some p)) where
  same_parts : (c : Constant) (vs : List Lambda) → t ≡ applied (constant c) vs → SameParts [] [] (the_head p.head.now) (constant c) (map (term_at b.terms) p.args.now) vs
  same_parts c vs e = parts [] [] (the_head p.head.now) (constant c) (map (term_at b.terms) p.args.now) vs (atom_head p.head.now) tt (sym h.0 ∙ e)

  count : (c : Constant) (vs : List Lambda) → t ≡ applied (constant c) vs → length p.args.now ≡ length vs
  count c vs e = sym (length-map p.args.now (term_at b.terms)) ∙ ap length (same_parts c vs e).arguments

  pub falsity_tells : (r : Bool) → length p.args.now ≡ 0 → (IsTrue r ↔ (the_head p.head.now ≡ constant falsity)) → IsTrue r ↔ (t ≡ constant falsity)
  falsity_tells r n e = (
    λ w. h.0 ∙ ap₂ (λ x y. applied x (map (term_at b.terms) y)) (e.0 w) (no_ids p.args.now n),
    λ w. e.1 (same_parts falsity [] w).head,
  )

  pub falsity_count : (length p.args.now ≡ 0 → ⊥) → t ≡ constant falsity → ⊥
  falsity_count n e = n (count falsity [] e)

  pub implication_count : (length p.args.now ≡ 2 → ⊥) → (s u : Lambda) → t ≡ imp s u → ⊥
  implication_count n s u e = n (count implication (s ∷ u ∷ []) e)

  pub implication_head_none : (the_head p.head.now ≡ constant implication → ⊥) → (s u : Lambda) → t ≡ imp s u → ⊥
  implication_head_none none s u e = none (same_parts implication (s ∷ u ∷ []) e).head

  pub implication_is : the_head p.head.now ≡ constant implication → (i j : ℕ) → length p.args.now ≡ 2 → slice_get p.args.now 0 ≡ Some i → slice_get p.args.now 1 ≡ Some j → (t ≡ imp (term_at b.terms i) (term_at b.terms j)) × (i < length b.terms) × (j < length b.terms)
  implication_is is i j n e f = (
    h.0 ∙ ap₂ (λ x y. applied x (map (term_at b.terms) y)) is (two_ids p.args.now i j n e f),
    within_at (length b.terms) p.args.now 0 i h.1 e,
    within_at (length b.terms) p.args.now 1 j h.1 f,
  )

  pub equation_count : (length p.args.now ≡ 2 → ⊥) → (a : SimpleType) (s u : Lambda) → t ≡ eq a s u → ⊥
  equation_count n a s u e = n (count (equality a) (s ∷ u ∷ []) e)

  pub equation_head_none : None ≡ equality_of (the_head p.head.now) → (a : SimpleType) (s u : Lambda) → t ≡ eq a s u → ⊥
  equation_head_none none a s u e = let q : None ≡ Some a = none ∙ ap equality_of (same_parts (equality a) (s ∷ u ∷ []) e).head in cc

  pub equation_is : (a : SimpleType) → Some a ≡ equality_of (the_head p.head.now) → (i j : ℕ) → length p.args.now ≡ 2 → slice_get p.args.now 0 ≡ Some i → slice_get p.args.now 1 ≡ Some j → (t ≡ eq a (term_at b.terms i) (term_at b.terms j)) × (i < length b.terms) × (j < length b.terms)
  equation_is a is i j n e f = (
    h.0 ∙ ap₂ (λ x y. applied x (map (term_at b.terms) y)) (equality_head (the_head p.head.now) a is) (two_ids p.args.now i j n e f),
    within_at (length b.terms) p.args.now 0 i h.1 e,
    within_at (length b.terms) p.args.now 1 j h.1 f,
  )

  pub quantified_count : (length p.args.now ≡ 1 → ⊥) → (a : SimpleType) (f : Lambda) → t ≡ every a f → ⊥
  quantified_count n a f e = n (count (all a) (f ∷ []) e)

  pub quantified_head_none : None ≡ quantified_by (the_head p.head.now) → (a : SimpleType) (f : Lambda) → t ≡ every a f → ⊥
  quantified_head_none none a f e = let q : None ≡ Some a = none ∙ ap quantified_by (same_parts (all a) (f ∷ []) e).head in cc

  pub quantified_is : (a : SimpleType) → Some a ≡ quantified_by (the_head p.head.now) → (i : ℕ) → length p.args.now ≡ 1 → slice_get p.args.now 0 ≡ Some i → (t ≡ every a (term_at b.terms i)) × (i < length b.terms)
  quantified_is a is i n e = (
    h.0 ∙ ap₂ (λ x y. applied x (map (term_at b.terms) y)) (quantifier_head (the_head p.head.now) a is) (one_id p.args.now i n e),
    within_at (length b.terms) p.args.now 0 i h.1 e,
  )
