-- Arguments that are compared.
use Rattle.std.proofs.Common.{◌≡◌, ◌<◌, ◌≤◌, ◌+◌, ℕ, zero, suc, true, List, [], ◌∷◌, ◌++◌, Some, length, map, take, take_all, slice_get, refl, sym, ap, ap₂, subst, subst₂, ◌∙◌, arith}
use Rattle.std.specs.Prelude.{All}
use Rattle.std.proofs.lemmas.Bool.{and_parts}
use Rattle.std.proofs.lemmas.List.{length-map}
use Rattle.std.proofs.lemmas.List.Elements.{All-head, All-tail}
use Rattle.std.proofs.lemmas.Option.{same_Some}
use Rattle.stt_core.specs.SimpleType.{SimpleType, base, arrow, is_declared}
use Rattle.stt_core.specs.Lambda.{Constant, Lambda, constant, app, eq, applied}
use Rattle.stt_core.specs.Typing.{Scope, constant_type, IsScope}
use Rattle.stt_core.specs.Canonical.{IsCanonical, IsNeutral}
use Rattle.stt_core.specs.View.{the_head}
use Rattle.stt_core.proofs.CanonicalTypes.{canonical_type-at}
use Rattle.stt_core.proofs.HeadLaws.{atom_head}
use Rattle.stt_core.proofs.ListLaws.{take_got}
use Rattle.stt_core.proofs.SpineLaws.{SameParts, parts}
use Rattle.stt_core.proofs.TypeLaws.{constant_declared}
use Rattle.tableau_calculus.specs.Literals.{minus, opposite, as_literal}
use Rattle.tableau_calculus.specs.Rules.{IsDecomposed, differ_each}
use Rattle.tableau_calculus.specs.Internal.Heads.{IsDecomposedHead}
use Rattle.tableau_calculus.proofs.DecompositionLaws.{Takes, arguments_taken}
use Rattle.term_bank.specs.Content.{Content, content_scope, HasTerm, Grows}
use Rattle.term_bank.specs.Terms.{term_at}
use Rattle.term_bank.proofs.GrowLaws.{grows_on, has_at, has_within}
use Rattle.tableau_rules.specs.Internal.Compared.{AreNotCompared, HaveArguments, TakesBoth, DiffersAt, DifferEach, IsComparison}
use Rattle.tableau_rules.specs.Internal.Drafted.{signed_at, alternatives_at, AreDraftedWithin, IsDifference}
use Rattle.tableau_rules.specs.Internal.Parts.{IsSpineOf}
use Rattle.tableau_rules.specs.Internal.Typed.{AreSides}
use Rattle.tableau_rules.specs.declared.draft.Signed.{Signed}
use Rattle.tableau_rules.specs.declared.part.Spine.{Spine}
use Rattle.tableau_rules.proofs.ConLaws.{difference_grown, difference_of}
use Rattle.tableau_rules.proofs.DraftLaws.{nay}
use Rattle.tableau_rules.proofs.TypedLaws.{sides_grown}

-- WHERE TERMS AREN'T COMPARED

spine_parts : (b : Content) (t : Lambda) (p : Spine) (c : Constant) (us : List Lambda) → IsSpineOf b t (Some p) → t ≡ applied (constant c) us → SameParts [] [] (the_head p.head.now) (constant c) (map (term_at b.terms) p.args.now) us
spine_parts b t p c us h e = parts [] [] (the_head p.head.now) (constant c) (map (term_at b.terms) p.args.now) us (atom_head p.head.now) tt (sym h.0 ∙ e)

no_arguments : (b : Content) (t : Lambda) (p : Spine) (c : Constant) (u : Lambda) (us : List Lambda) → IsSpineOf b t (Some p) → length p.args.now ≡ 0 → t ≡ applied (constant c) (u ∷ us) → ⊥
no_arguments b t p c u us h n e = absurd (omega (arith, n, length-map p.args.now (term_at b.terms), ap length (spine_parts b t p c (u ∷ us) h e).arguments))

module _ (b : Content) (s t : Lambda) (p q : Spine) (left : IsSpineOf b s (Some p)) (right : IsSpineOf b t (Some q)) where
  pub compared-no_left : length p.args.now ≡ 0 → AreNotCompared s t
  compared-no_left n = λ c u v us vs d e f. no_arguments b s p c u us left n e

  pub compared-no_right : length q.args.now ≡ 0 → AreNotCompared s t
  compared-no_right n = λ c u v us vs d e f. no_arguments b t q c v vs right n f

  pub compared-head : (IsDecomposedHead (the_head p.head.now) → ⊥) → AreNotCompared s t
  compared-head other = λ c u v us vs d e f. other (c, d, (spine_parts b s p c (u ∷ us) left e).head)

  pub compared-heads : (the_head p.head.now ≡ the_head q.head.now → ⊥) → AreNotCompared s t
  compared-heads differ = λ c u v us vs d e f. differ ((spine_parts b s p c (u ∷ us) left e).head ∙ sym (spine_parts b t q c (v ∷ vs) right f).head)

-- THAT TWO TERMS DIFFER

one_type : (scope : Scope) (a c : SimpleType) (t : Lambda) → IsCanonical scope [] a t → IsCanonical scope [] c t → a ≡ c
one_type scope a c t h k = same_Some a c (sym (canonical_type-at scope [] a t h) ∙ canonical_type-at scope [] c t k)

module _ (b : Content) (x y : SimpleType) (s t : ℕ) (typed : IsCanonical (content_scope b) [] x (term_at b.terms s)) (same : y ≡ x) where
  type_here : (a : SimpleType) → AreSides b a s t → a ≡ y
  type_here a h = one_type (content_scope b) a x (term_at b.terms s) h.left typed ∙ sym same

  pub sides_here : (a : SimpleType) → AreSides b a s t → AreSides b y s t
  sides_here a h = subst (λ z. AreSides b z s t) (type_here a h) h

  pub differs_here : (e : Content) (id : ℕ) (d : Signed) → HasTerm e id (eq y (term_at b.terms s) (term_at b.terms t)) → d ≡ nay id → DiffersAt b e s t d
  differs_here e id d has is = λ a h.
      subst (IsDifference b e a s t) (sym is)
      (record { has = has ∙ ap (λ z. Some (eq z (term_at b.terms s) (term_at b.terms t))) (sym (type_here a h)); denied = refl })

-- ARGUMENTS OF ONE FUNCTION

pub takes_length : (b : Content) (a : SimpleType) (ss ts : List ℕ) → TakesBoth b a ss ts → length ss ≡ length ts
takes_length b (base n) [] [] h = refl
takes_length b (base n) [] (t ∷ ts) h = absurd h
takes_length b (base n) (s ∷ ss) ts h = absurd h
takes_length b (arrow c a) [] ts h = absurd h
takes_length b (arrow c a) (s ∷ ss) [] h = absurd h
takes_length b (arrow c a) (s ∷ ss) (t ∷ ts) h = ap suc (takes_length b a ss ts h.1)

pub takes_at : (b : Content) (a : SimpleType) (ss ts : List ℕ) (i s t : ℕ) → TakesBoth b a ss ts → slice_get ss i ≡ Some s → slice_get ts i ≡ Some t → (c : SimpleType) × AreSides b c s t
takes_at b (base n) [] [] i s t h e f = cc
takes_at b (base n) [] (y ∷ ts) i s t h e f = absurd h
takes_at b (base n) (x ∷ ss) ts i s t h e f = absurd h
takes_at b (arrow c a) [] ts i s t h e f = absurd h
takes_at b (arrow c a) (x ∷ ss) [] i s t h e f = absurd h
takes_at b (arrow c a) (x ∷ ss) (y ∷ ts) zero s t h e f = (c, subst₂ (AreSides b c) (same_Some x s e) (same_Some y t f) h.0)
takes_at b (arrow c a) (x ∷ ss) (y ∷ ts) (suc i) s t h e f = takes_at b a ss ts i s t h.1 e f

-- ONE DIFFERENCE AFTER THE OTHER

differs_grown : (b c d : Content) (s t : ℕ) (x : Signed) → Grows c d → DiffersAt b c s t x → DiffersAt b d s t x
differs_grown b c d s t x g h = λ a k. difference_grown b c d a s t x g (h a k)

differs_of : (b c d : Content) (s t : ℕ) (x : Signed) → Grows b c → DiffersAt c d s t x → DiffersAt b d s t x
differs_of b c d s t x g h = λ a k. difference_of b c d a s t x g k.left_within k.right_within (h a (sides_grown b c g a s t k))

each_grown : (b c d : Content) (ss ts : List ℕ) (ds : List (List Signed)) → Grows c d → DifferEach b c ss ts ds → DifferEach b d ss ts ds
each_grown b c d [] [] ds g h = h
each_grown b c d [] (t ∷ ts) ds g h = h
each_grown b c d (s ∷ ss) [] ds g h = h
each_grown b c d (s ∷ ss) (t ∷ ts) ds g h = (h.0, h.1, h.2, differs_grown b c d s t h.0 g h.3, each_grown b c d ss ts h.1 g h.4)

each_end : (b d : Content) (ss ts : List ℕ) (ds : List (List Signed)) (s t : ℕ) (x : Signed) → DifferEach b d ss ts ds → DiffersAt b d s t x → DifferEach b d (ss ++ s ∷ []) (ts ++ t ∷ []) (ds ++ (x ∷ []) ∷ [])
each_end b d [] [] ds s t x h k = (x, [], ap (λ l. l ++ (x ∷ []) ∷ []) h, k, refl)
each_end b d [] (v ∷ ts) ds s t x h k = absurd h
each_end b d (u ∷ ss) [] ds s t x h k = absurd h
each_end b d (u ∷ ss) (v ∷ ts) ds s t x h k = (h.0, h.1 ++ (x ∷ []) ∷ [], ap (λ l. l ++ (x ∷ []) ∷ []) h.2, h.3, each_end b d ss ts h.1 s t x h.4 k)

-- how far the arguments are compared
pub record DiffersTo (old new : Content) (ss ts : List ℕ) (i : ℕ) (ds : List (List Signed)) : Type 0 where
  pub differ : DifferEach old new (take i ss) (take i ts) ds
  pub grows : Grows old new

pub differs_all : (b c : Content) (ss ts : List ℕ) (i : ℕ) (ds : List (List Signed)) → DiffersTo b c ss ts i ds → length ss ≤ i → length ss ≡ length ts → DifferEach b c ss ts ds
differs_all b c ss ts i ds h far same =
    subst₂ (λ l m. DifferEach b c l m ds) (take_all i ss far) (take_all i ts (omega (arith, far, same))) h.differ

pub differs_more : (b c d : Content) (ss ts : List ℕ) (i s t : ℕ) (x : Signed) (ds all : List (List Signed)) (one : List Signed) → DiffersTo b c ss ts i ds → slice_get ss i ≡ Some s → slice_get ts i ≡ Some t → Grows c d → DiffersAt c d s t x → one ≡ x ∷ [] → all ≡ ds ++ one ∷ [] → DiffersTo b d ss ts (i + 1) all
differs_more b c d ss ts i s t x ds all one h e f g k is w =
    let end = each_end b d (take i ss) (take i ts) ds s t x (each_grown b c d (take i ss) (take i ts) ds g h.differ) (differs_of b c d s t x h.grows k) in
    record {
      differ = subst₂ (λ l m. DifferEach b d l m all) (sym (take_got ss i s e)) (sym (take_got ts i t f))
          (subst (DifferEach b d (take i ss ++ s ∷ []) (take i ts ++ t ∷ [])) (sym (w ∙ ap (λ o. ds ++ o ∷ []) is)) end);
      grows = grows_on b c d h.grows g;
    }

-- WHAT THE ARGUMENTS OF ONE HEAD ARE

neutral_of : (scope : Scope) (t u : Lambda) (us : List Lambda) (x : SimpleType) → IsCanonical scope [] x (applied (app t u) us) → IsNeutral scope [] x (applied (app t u) us)
neutral_of scope t u [] x h = h.1
neutral_of scope t u (v ∷ us) x h = neutral_of scope (app t u) v us x h

neutral_head : (scope : Scope) (h : Lambda) (us : List Lambda) (x : SimpleType) → IsNeutral scope [] x (applied h us) → (a : SimpleType) × IsNeutral scope [] a h
neutral_head scope h [] x n = (x, n)
neutral_head scope h (u ∷ us) x n = let rest = neutral_head scope (app h u) us x n in (arrow rest.1.0 rest.0, rest.1.1)

-- the head of a canonical term has a type
head_typed : (scope : Scope) (c : Constant) (u : Lambda) (us : List Lambda) (x : SimpleType) → IsCanonical scope [] x (applied (constant c) (u ∷ us)) → (a : SimpleType) × (constant_type scope c ≡ Some a)
head_typed scope c u us x h = neutral_head scope (constant c) (u ∷ us) x (neutral_of scope (constant c) u us x h)

takes_both : (b : Content) (a : SimpleType) (n : ℕ) (ss ts : List ℕ) → is_declared (content_scope b).bases a ≡ true → Takes (content_scope b) a (map (term_at b.terms) ss) (base n) → Takes (content_scope b) a (map (term_at b.terms) ts) (base n) → All (λ i. i < length b.terms) ss → All (λ i. i < length b.terms) ts → TakesBoth b a ss ts
takes_both b (base m) n [] [] d p q l r = tt
takes_both b (base m) n [] (t ∷ ts) d p q l r = absurd q
takes_both b (base m) n (s ∷ ss) ts d p q l r = absurd p
takes_both b (arrow c a) n [] ts d p q l r = cc
takes_both b (arrow c a) n (s ∷ ss) [] d p q l r = cc
takes_both b (arrow c a) n (s ∷ ss) (t ∷ ts) d p q l r =
    let parts = and_parts _ _ d in (
      record { left_within = All-head (λ i. i < length b.terms) s ss l; right_within = All-head (λ i. i < length b.terms) t ts r; declared = parts.0; left = p.0; right = q.0 },
      takes_both b a n ss ts parts.1 p.1 q.1 (All-tail (λ i. i < length b.terms) s ss l) (All-tail (λ i. i < length b.terms) t ts r),
    )

module _ (b : Content) (n : ℕ) (over : IsScope (content_scope b)) where
  taken : (c : Constant) (ss ts : List ℕ) → 0 < length ss → 0 < length ts → IsCanonical (content_scope b) [] (base n) (applied (constant c) (map (term_at b.terms) ss)) → IsCanonical (content_scope b) [] (base n) (applied (constant c) (map (term_at b.terms) ts)) → All (λ i. i < length b.terms) ss → All (λ i. i < length b.terms) ts → (a : SimpleType) × (constant_type (content_scope b) c ≡ Some a) × TakesBoth b a ss ts
  taken c [] ts k m p q l r = absurd (omega (arith, k))
  taken c (s ∷ ss) [] k m p q l r = absurd (omega (arith, m))
  taken c (s ∷ ss) (t ∷ ts) k m p q l r =
      let scope = content_scope b in
      let f = head_typed scope c (term_at b.terms s) (map (term_at b.terms) ss) (base n) p in (
        f.0,
        f.1,
        takes_both b f.0 n (s ∷ ss) (t ∷ ts) (constant_declared scope over c f.0 f.1)
            (arguments_taken scope c f.0 (term_at b.terms s) (map (term_at b.terms) ss) (base n) f.1 p)
            (arguments_taken scope c f.0 (term_at b.terms t) (map (term_at b.terms) ts) (base n) f.1 q) l r,
      )

  pub arguments_fit : (s t : ℕ) (left right : List ℕ) → AreSides b (base n) s t → (h : HaveArguments b (term_at b.terms s) (term_at b.terms t) left right) → (a : SimpleType) × (constant_type (content_scope b) h.head ≡ Some a) × TakesBoth b a left right
  arguments_fit s t left right sides h =
      taken h.head left right h.left_some h.right_some (subst (IsCanonical (content_scope b) [] (base n)) h.left_is sides.left) (subst (IsCanonical (content_scope b) [] (base n)) h.right_is sides.right) h.left_within h.right_within

-- WHAT THE DRAFTS STAND FOR

difference_is : (b d : Content) (a : SimpleType) (s t : ℕ) (x : Signed) → IsDifference b d a s t x → signed_at d x ≡ minus (eq a (term_at b.terms s) (term_at b.terms t))
difference_is b d a s t x h =
    ap (λ y. signed_at d (record { formula = x.formula; positive = y })) h.denied
    ∙ ap (λ u. opposite (as_literal u)) (has_at d x.formula (eq a (term_at b.terms s) (term_at b.terms t)) h.has)

module _ (b d : Content) where
  each_within : (a : SimpleType) (ss ts : List ℕ) (ds : List (List Signed)) → TakesBoth b a ss ts → DifferEach b d ss ts ds → AreDraftedWithin d ds
  each_within (base n) [] [] ds h k = subst (AreDraftedWithin d) (sym k) tt
  each_within (base n) [] (t ∷ ts) ds h k = absurd h
  each_within (base n) (s ∷ ss) ts ds h k = absurd h
  each_within (arrow c a) [] ts ds h k = absurd h
  each_within (arrow c a) (s ∷ ss) [] ds h k = absurd h
  each_within (arrow c a) (s ∷ ss) (t ∷ ts) ds h k =
      subst (AreDraftedWithin d) (sym k.2)
      ((has_within d k.0.formula (eq c (term_at b.terms s) (term_at b.terms t)) (k.3 c h.0).has, tt), each_within a ss ts k.1 h.1 k.4)

  each_is : (a : SimpleType) (ss ts : List ℕ) (ds : List (List Signed)) → TakesBoth b a ss ts → DifferEach b d ss ts ds → alternatives_at d ds ≡ differ_each a (map (term_at b.terms) ss) (map (term_at b.terms) ts)
  each_is (base n) [] [] ds h k = ap (alternatives_at d) k
  each_is (base n) [] (t ∷ ts) ds h k = absurd h
  each_is (base n) (s ∷ ss) ts ds h k = absurd h
  each_is (arrow c a) [] ts ds h k = absurd h
  each_is (arrow c a) (s ∷ ss) [] ds h k = absurd h
  each_is (arrow c a) (s ∷ ss) (t ∷ ts) ds h k =
      ap (alternatives_at d) k.2 ∙ ap₂ (λ x y. (x ∷ []) ∷ y) (difference_is b d c s t k.0 (k.3 c h.0)) (each_is a ss ts k.1 h.1 k.4)

  module _ (s t : Lambda) (c : Constant) (dec : IsDecomposed c) (a : SimpleType) (typed : constant_type (content_scope b) c ≡ Some a) where
    compared : (ss ts : List ℕ) → 0 < length ss → 0 < length ts → s ≡ applied (constant c) (map (term_at b.terms) ss) → t ≡ applied (constant c) (map (term_at b.terms) ts) → TakesBoth b a ss ts → (ds : List (List Signed)) → DifferEach b d ss ts ds → IsComparison b d s t ds
    compared [] ts k m p q h ds g = absurd (omega (arith, k))
    compared (i ∷ ss) [] k m p q h ds g = absurd (omega (arith, m))
    compared (i ∷ ss) (j ∷ ts) k m p q h ds g = record {
      head = c;
      decomposed = dec;
      type = a;
      has_type = typed;
      left_first = term_at b.terms i;
      left_rest = map (term_at b.terms) ss;
      left_is = p;
      right_first = term_at b.terms j;
      right_rest = map (term_at b.terms) ts;
      right_is = q;
      within = each_within a (i ∷ ss) (j ∷ ts) ds h g;
      alternatives = each_is a (i ∷ ss) (j ∷ ts) ds h g;
    }

  pub compared_found : (n : ℕ) → IsScope (content_scope b) → (s t : ℕ) (left right : List ℕ) → AreSides b (base n) s t → HaveArguments b (term_at b.terms s) (term_at b.terms t) left right → (ds : List (List Signed)) → DifferEach b d left right ds → IsComparison b d (term_at b.terms s) (term_at b.terms t) ds
  compared_found n over s t left right sides h ds g =
      let f = arguments_fit b n over s t left right sides h in
      compared (term_at b.terms s) (term_at b.terms t) h.head h.decomposed f.0 f.1 left right h.left_some h.right_some h.left_is h.right_is f.2 ds g
