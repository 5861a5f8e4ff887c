-- Literals are mated and confronted with those that they fit.
use Rattle.std.specs.Prelude.{◌≡◌, ◌&&◌, ◌||◌, ℕ, suc, Bool, true, false, not, List, [], ◌∷◌, Some, refl, if◌then◌else◌}
use Rattle.std.proofs.Common.{sym, ap, ap₂, ◌∙◌, subst}
use Rattle.std.proofs.lemmas.Bool.{and_parts}
use Rattle.stt_core.specs.SimpleType.{SimpleType, base, arrow, formula}
use Rattle.stt_core.specs.Lambda.{Constant, Lambda, constant, app, applied, eq}
use Rattle.stt_core.specs.Typing.{Scope, constant_type}
use Rattle.stt_core.specs.Canonical.{IsCanonical, IsNeutral}
use Rattle.tableau_calculus.specs.Literals.{Literal, IsLiteral}
use Rattle.tableau_calculus.specs.Kinds.{same_sign}
use Rattle.tableau_calculus.specs.Each.{Each}
use Rattle.search_spec.specs.Spine.{head_of, arguments, is_spine, same_head}
use Rattle.search_spec.specs.Partners.{partners, equates_on, has_equal_sides, positive_first, matings, confrontations}
use Rattle.search_spec.specs.State.{mate, confront}
use Rattle.search_spec.specs.TypedState.{Mates, IsTypedCommand}
use Rattle.search_spec.proofs.SpineLaws.{applied_whole, IsSpineOf, spine_is, same_head_is, equation_is}
use Rattle.search_spec.proofs.TypedPushes.{each_filtered, each_mapped}

-- the first is positive and the second is not, or the other way round
pub turned : (p q : Bool) → not (same_sign p q) ≡ true → q ≡ not p
turned true true e = cc
turned true false e = refl
turned false true e = refl
turned false false e = cc

module _ (scope : Scope) where
  constant_neutral : (c : Constant) (b : SimpleType) → IsCanonical scope [] b (constant c) → constant_type scope c ≡ Some b
  constant_neutral c b h = h.1

  -- what has the head of a function is an application too
  pub applied_too : (c : Constant) (t : Lambda) → head_of t ≡ constant c → IsCanonical scope [] formula t → (a b : SimpleType) → constant_type scope c ≡ Some (arrow a b) → (us : List Lambda) → arguments t ≡ us → (s : Lambda) × (ss : List Lambda) × (t ≡ applied (constant c) (s ∷ ss))
  applied_too c t e h a b g [] f =
      let whole : constant c ≡ t = sym (ap₂ applied e f) ∙ applied_whole t in
      let P : Lambda → Type 0 = λ u. IsCanonical scope [] formula u in
      let k : constant_type scope c ≡ Some formula = constant_neutral c formula (subst P (sym whole) h) in
      absurd (no_arrow a b (sym k ∙ g))
    where
      no_arrow : (x y : SimpleType) → Some formula ≡ Some (arrow x y) → ⊥
      no_arrow x y e = cc
  applied_too c t e h a b g (s ∷ ss) f = (s, ss, sym (applied_whole t) ∙ ap₂ applied e f)

  pub head_function : (h u : Lambda) (us : List Lambda) (b : SimpleType) → IsCanonical scope [] b (applied (app h u) us) → (x : SimpleType) × (y : SimpleType) × IsNeutral scope [] (arrow x y) h
  head_function h u [] b k = (k.1.0, b, k.1.1)
  head_function h u (v ∷ us) b k =
      let r = head_function (app h u) v us b k in
      (r.2.0, arrow r.0 r.1, r.2.1)

  literal_is : (l : Literal) (b : Bool) (t : Lambda) → l.positive ≡ b → l.atom ≡ t → l ≡ record { positive = b; atom = t }
  literal_is l b t e f = ap₂ (λ c u. record { positive = c; atom = u }) e f

  -- two literals of opposite signs, of which the first is a spine with the head of the second
  mates : (l m : Literal) → IsLiteral scope l → IsLiteral scope m → l.positive ≡ true → m.positive ≡ false → (a : IsSpineOf l.atom) → (s : Lambda) × (ss : List Lambda) × (m.atom ≡ applied (constant a.head) (s ∷ ss)) → Mates scope l m
  mates l m hl hm p q a b = record {
    positive = hl;
    negative = hm;
    head = a.head;
    compared = a.compared;
    s = a.first;
    ss = a.more;
    t = b.0;
    ts = b.1;
    is_positive = literal_is l true _ p a.is;
    is_negative = literal_is m false _ q b.2;
  }

  mates_back : (l m : Literal) → IsLiteral scope l → IsLiteral scope m → l.positive ≡ false → m.positive ≡ true → (a : IsSpineOf l.atom) → (s : Lambda) × (ss : List Lambda) × (m.atom ≡ applied (constant a.head) (s ∷ ss)) → Mates scope m l
  mates_back l m hl hm p q a b = record {
    positive = hm;
    negative = hl;
    head = a.head;
    compared = a.compared;
    s = b.0;
    ss = b.1;
    t = a.first;
    ts = a.more;
    is_positive = literal_is m true _ q b.2;
    is_negative = literal_is l false _ p a.is;
  }

  other_spine : (l m : Literal) → IsLiteral scope l → IsLiteral scope m → (a : IsSpineOf l.atom) → same_head l.atom m.atom ≡ true → (s : Lambda) × (ss : List Lambda) × (m.atom ≡ applied (constant a.head) (s ∷ ss))
  other_spine l m hl hm a e =
      let P : Lambda → Type 0 = λ t. IsCanonical scope [] formula t in
      let f = head_function (constant a.head) a.first a.more formula (subst P a.is hl.formula) in
      applied_too a.head m.atom (sym (same_head_is l.atom m.atom e) ∙ a.head_is) hm.formula f.0 f.1 f.2 (arguments m.atom) refl

  mating-typed : (l m : Literal) → IsLiteral scope l → IsLiteral scope m → IsSpineOf l.atom → (not (same_sign l.positive m.positive) && same_head l.atom m.atom) ≡ true → IsTypedCommand scope (positive_first mate l m)
  mating-typed l m hl hm a e = by_sign l.positive refl
    where
      parts : (not (same_sign l.positive m.positive) ≡ true) × (same_head l.atom m.atom ≡ true)
      parts = and_parts _ _ e

      by_sign : (b : Bool) → l.positive ≡ b → IsTypedCommand scope (if b then mate l m else mate m l)
      by_sign true p = mates l m hl hm p (turned l.positive m.positive parts.0 ∙ ap not p) a (other_spine l m hl hm a parts.1)
      by_sign false p = mates_back l m hl hm p (turned l.positive m.positive parts.0 ∙ ap not p) a (other_spine l m hl hm a parts.1)

  pub matings-typed : (l : Literal) (noted : List Literal) → IsLiteral scope l → is_spine l.atom ≡ true → Each (IsLiteral scope) noted → Each (IsTypedCommand scope) (matings l noted)
  matings-typed l noted hl e h =
      each_mapped (λ m. IsTypedCommand scope (positive_first mate l m)) (IsTypedCommand scope) (positive_first mate l) (λ m k. k) (partners (same_head l.atom) l noted)
      (each_filtered (IsLiteral scope) (λ m. IsTypedCommand scope (positive_first mate l m)) (λ m. not (same_sign l.positive m.positive) && same_head l.atom m.atom) (λ m hm f. mating-typed l m hl hm (spine_is l.atom e) f) noted h)

  confrontation-typed : (n : ℕ) (sign : Bool) (s t : Lambda) (m : Literal) → IsLiteral scope (record { positive = sign; atom = eq (base (suc n)) s t }) → IsLiteral scope m → m.positive ≡ not sign → equates_on (base (suc n)) m.atom ≡ true → IsTypedCommand scope (positive_first confront (record { positive = sign; atom = eq (base (suc n)) s t }) m)
  confrontation-typed n true s t m hl hm p e =
      let o = equation_is (base (suc n)) m.atom e in
      record { positive = hl; negative = hm; n = n; s = s; t = t; u = o.0; v = o.1; is_positive = refl; is_negative = literal_is m false _ p o.2 }
  confrontation-typed n false s t m hl hm p e =
      let o = equation_is (base (suc n)) m.atom e in
      record { positive = hm; negative = hl; n = n; s = o.0; t = o.1; u = s; v = t; is_positive = literal_is m true _ p o.2; is_negative = refl }

  pub confrontations-typed : (n : ℕ) (sign : Bool) (s t : Lambda) (noted : List Literal) → IsLiteral scope (record { positive = sign; atom = eq (base (suc n)) s t }) → Each (IsLiteral scope) noted → Each (IsTypedCommand scope) (confrontations (base (suc n)) (record { positive = sign; atom = eq (base (suc n)) s t }) noted)
  confrontations-typed n sign s t noted hl h =
      let l : Literal = record { positive = sign; atom = eq (base (suc n)) s t } in
      let test : Lambda → Bool = λ u. equates_on (base (suc n)) u && (not sign || not (has_equal_sides u)) in
      each_mapped (λ m. IsTypedCommand scope (positive_first confront l m)) (IsTypedCommand scope) (positive_first confront l) (λ m k. k) (partners test l noted)
      (each_filtered (IsLiteral scope) (λ m. IsTypedCommand scope (positive_first confront l m)) (λ m. not (same_sign sign m.positive) && test m.atom)
      (λ m hm f. let p = and_parts _ _ f in confrontation-typed n sign s t m hl hm (turned sign m.positive p.0) (and_parts _ _ p.1).0) noted h)
