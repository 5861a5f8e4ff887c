-- What is found of the rules that compare the arguments of one head.
use Rattle.std.proofs.Common.{◌≡◌, ◌+◌, ◌≤◌, ℕ, zero, suc, Bool, true, false, List, [], ◌∷◌, ◌++◌, Option, Some, None, length, drop, slice_get, refl, sym, ap, ap₂, subst, ◌∙◌, append_assoc, append-nil, arith}
use Rattle.stt_core.specs.SimpleType.{SimpleType, base, arrow}
use Rattle.stt_core.specs.Lambda.{Constant, Lambda, constant, eq, applied}
use Rattle.stt_core.specs.Typing.{Scope, type_of, constant_type}
use Rattle.stt_core.specs.View.{the_head}
use Rattle.stt_core.proofs.ListLaws.{drop_got}
use Rattle.stt_core.proofs.SpineLaws.{parts}
use Rattle.tableau_calculus.specs.Literals.{Literal, plus, minus}
use Rattle.tableau_calculus.specs.Witnesses.{Row}
use Rattle.tableau_calculus.specs.Rules.{IsDecomposed, differ_each, mat_rule, dec_rule, AreAt, IsInstance}
use Rattle.stt_tableau.specs.Internal.Parts.{IsSpine}
use Rattle.tableau_calculus.specs.Checks.{StandsAt, FindsInstance}
use Rattle.stt_tableau.specs.Internal.Instances.{IsSpineAt, SpinesDiffer}
use Rattle.stt_tableau.specs.declared.decompose.Spine.{Spine}
use Rattle.tableau_calculus.specs.declared.rule_use.RuleUse.TheVariants.{AtOne, AtTwo}
use Rattle.tableau_calculus.specs.declared.rule_use.OnePlace.TheVariants.{Dec}
use Rattle.tableau_calculus.specs.declared.rule_use.TwoPlaces.TheVariants.{Mat}
use Rattle.tableau_calculus.proofs.InstanceLaws.{fits}

drop_all : (xs : List Lambda) (i : ℕ) → length xs ≤ i → drop i xs ≡ []
drop_all [] zero h = refl
drop_all [] (suc i) h = refl
drop_all (x ∷ xs) zero h = absurd (omega (arith, h))
drop_all (x ∷ xs) (suc i) h = drop_all xs i (omega (arith, h))

differ_left : (a : SimpleType) (ts : List Lambda) → differ_each a [] ts ≡ []
differ_left (base n) ts = refl
differ_left (arrow a b) ts = refl

differ_right : (a : SimpleType) (ss : List Lambda) → differ_each a ss [] ≡ []
differ_right (base n) ss = refl
differ_right (arrow a b) [] = refl
differ_right (arrow a b) (s ∷ ss) = refl

pub none_left : (a : SimpleType) (ss ts : List Lambda) (i : ℕ) (done : List (List Literal)) → length ss ≤ i → done ≡ done ++ differ_each a (drop i ss) (drop i ts)
none_left a ss ts i done h = sym (ap (λ x. done ++ differ_each a x (drop i ts)) (drop_all ss i h) ∙ ap (λ x. done ++ x) (differ_left a (drop i ts)) ∙ append-nil done)

pub none_right : (a : SimpleType) (ss ts : List Lambda) (i : ℕ) (done : List (List Literal)) → length ts ≤ i → done ≡ done ++ differ_each a (drop i ss) (drop i ts)
none_right a ss ts i done h = sym (ap (λ x. done ++ differ_each a (drop i ss) x) (drop_all ts i h) ∙ ap (λ x. done ++ x) (differ_right a (drop i ss)) ∙ append-nil done)

-- one argument more
pub more_differ : (ty a b : SimpleType) (ss ts : List Lambda) (i : ℕ) (s t : Lambda) (lit : Literal) (one : List Literal) (done more all : List (List Literal)) → ty ≡ arrow a b → slice_get ss i ≡ Some s → slice_get ts i ≡ Some t → lit ≡ minus (eq a s t) → one ≡ lit ∷ [] → more ≡ done ++ one ∷ [] → all ≡ more ++ differ_each b (drop (i + 1) ss) (drop (i + 1) ts) → all ≡ done ++ differ_each ty (drop i ss) (drop i ts)
more_differ ty a b ss ts i s t lit one done more all is h g p q k e =
    e ∙ ap (λ x. x ++ differ_each b (drop (i + 1) ss) (drop (i + 1) ts)) k ∙ append_assoc done (one ∷ []) (differ_each b (drop (i + 1) ss) (drop (i + 1) ts))
    ∙ ap (λ x. done ++ x ∷ differ_each b (drop (i + 1) ss) (drop (i + 1) ts)) (q ∙ ap (λ l. l ∷ []) p)
    ∙ ap₂ (λ x y. done ++ differ_each (arrow a b) x y) (sym (drop_got ss i s h)) (sym (drop_got ts i t g))
    ∙ ap (λ x. done ++ differ_each x (drop i ss) (drop i ts)) (sym is)

same_constant : (c d : Constant) (h k : Lambda) → h ≡ constant c → k ≡ constant d → h ≡ k → c ≡ d
same_constant c d h k p q e = let same : constant c ≡ constant d = sym p ∙ e ∙ q in cc

same_spine_head : (c d : Constant) (ss ts : List Lambda) → applied (constant c) ss ≡ applied (constant d) ts → constant c ≡ constant d
same_spine_head c d ss ts e = (parts [] [] (constant c) (constant d) ss ts tt tt e).head

same_literal_at : (branch : List Literal) (i : ℕ) (l k : Literal) → slice_get branch i ≡ Some l → slice_get branch i ≡ Some k → l ≡ k
same_literal_at branch i l k g h = let e : Some l ≡ Some k = sym g ∙ h in cc

same_atom : (branch : List Literal) (i : ℕ) (sign : Bool) (s t : Lambda) → StandsAt branch i sign s → StandsAt branch i sign t → s ≡ t
same_atom branch i sign s t h k = ap (λ x. x.atom) (same_literal_at branch i (record { positive = sign; atom = s }) (record { positive = sign; atom = t }) h k)

module _ (scope : Scope) (rows : List Row) (branch : List Literal) where
  pub mat_found : (i j : ℕ) (left right : Option Spine) (o : Option (List (List Literal))) → IsSpineAt branch i true left → IsSpineAt branch j false right → SpinesDiffer scope left right o → FindsInstance scope rows branch (AtTwo Mat i j) o
  mat_found i j (Some p) (Some q) (Some as') (c, s, ss, dec, head, args, at) (d, t, ts, dec', head', args', at') (a, type, same, is) =
      let e = same_constant c d (the_head p.head.now) (the_head q.head.now) head head' same in
      let all : as' ≡ differ_each a (s ∷ ss) (t ∷ ts) = is ∙ ap₂ (differ_each a) args args' in
      subst (IsInstance scope rows branch (AtTwo Mat i j)) (sym all) (record {
        principals = plus (applied (constant c) (s ∷ ss)) ∷ minus (applied (constant c) (t ∷ ts)) ∷ [];
        at_places = (at, (at' ∙ ap (λ x. Some (minus (applied (constant x) (t ∷ ts)))) (sym e), tt));
        fits = mat_rule i j c a s t ss ts dec (sym (ap (type_of scope []) head) ∙ type);
      })
  mat_found i j (Some p) (Some q) None (c, s, ss, dec, head, args, at) (d, t, ts, dec', head', args', at') none = λ alternatives h.
      let f = fits scope rows (AtTwo Mat i j) h.principals alternatives h.fits in
      let places = subst (AreAt branch (i ∷ j ∷ [])) f.8 h.at_places in
      let left = same_spine_head c f.0 (s ∷ ss) (f.2 ∷ f.4) (same_atom branch i true (applied (constant c) (s ∷ ss)) (applied (constant f.0) (f.2 ∷ f.4)) at places.0) in
      let right = same_spine_head d f.0 (t ∷ ts) (f.3 ∷ f.5) (same_atom branch j false (applied (constant d) (t ∷ ts)) (applied (constant f.0) (f.3 ∷ f.5)) at' places.1.0) in
      none f.1 (ap (type_of scope []) (head ∙ left) ∙ f.7) (head ∙ left ∙ sym right ∙ sym head')
  mat_found i j None q None h k none = λ alternatives g.
      let f = fits scope rows (AtTwo Mat i j) g.principals alternatives g.fits in
      let places = subst (AreAt branch (i ∷ j ∷ [])) f.8 g.at_places in
      h f.0 f.2 f.4 f.6 places.0
  mat_found i j (Some p) None None h k none = λ alternatives g.
      let f = fits scope rows (AtTwo Mat i j) g.principals alternatives g.fits in
      let places = subst (AreAt branch (i ∷ j ∷ [])) f.8 g.at_places in
      k f.0 f.3 f.5 f.6 places.1.0
  mat_found i j None q (Some as') h k g = absurd g
  mat_found i j (Some p) None (Some as') h k g = absurd g

  -- the parts of an instance of decomposition
  dec_parts : (i : ℕ) (b : SimpleType) (u v : Lambda) (as' : List (List Literal)) → StandsAt branch i false (eq b u v) → IsInstance scope rows branch (AtOne Dec i) as' → (c : Constant) × (a : SimpleType) × (s : Lambda) × (t : Lambda) × (ss : List Lambda) × (ts : List Lambda) × IsDecomposed c × (constant_type scope c ≡ Some a) × (u ≡ applied (constant c) (s ∷ ss)) × (v ≡ applied (constant c) (t ∷ ts))
  dec_parts i b u v as' at g =
      let f = fits scope rows (AtOne Dec i) g.principals as' g.fits in
      let places = subst (AreAt branch (i ∷ [])) f.9 g.at_places in
      let e = same_atom branch i false (eq b u v) (eq (base (suc f.0)) (applied (constant f.1) (f.3 ∷ f.5)) (applied (constant f.1) (f.4 ∷ f.6))) at places.0 in
      let p : u ≡ applied (constant f.1) (f.3 ∷ f.5) = cc in
      let q : v ≡ applied (constant f.1) (f.4 ∷ f.6) = cc in
      (f.1, f.2, f.3, f.4, f.5, f.6, f.7, f.8, p, q)

  pub dec_found : (i n : ℕ) (b : SimpleType) (u v : Lambda) (left right : Option Spine) (o : Option (List (List Literal))) → StandsAt branch i false (eq b u v) → b ≡ base (suc n) → IsSpine u left → IsSpine v right → SpinesDiffer scope left right o → FindsInstance scope rows branch (AtOne Dec i) o
  dec_found i n b u v (Some p) (Some q) (Some as') at is_base (c, s, ss, dec, head, args, is) (d, t, ts, dec', head', args', is') (a, type, same, all') =
      let e = same_constant c d (the_head p.head.now) (the_head q.head.now) head head' same in
      let all : as' ≡ differ_each a (s ∷ ss) (t ∷ ts) = all' ∙ ap₂ (differ_each a) args args' in
      subst (IsInstance scope rows branch (AtOne Dec i)) (sym all) (record {
        principals = minus (eq (base (suc n)) (applied (constant c) (s ∷ ss)) (applied (constant c) (t ∷ ts))) ∷ [];
        at_places = (at ∙ ap (λ x. Some (minus (eq x u v))) is_base ∙ ap₂ (λ x y. Some (minus (eq (base (suc n)) x y))) is (is' ∙ ap (λ x. applied (constant x) (t ∷ ts)) (sym e)), tt);
        fits = dec_rule i n c a s t ss ts dec (sym (ap (type_of scope []) head) ∙ type);
      })
  dec_found i n b u v (Some p) (Some q) None at is_base (c, s, ss, dec, head, args, is) (d, t, ts, dec', head', args', is') none = λ alternatives g.
      let f = dec_parts i b u v alternatives at g in
      let left = same_spine_head c f.0 (s ∷ ss) (f.2 ∷ f.4) (sym is ∙ f.8) in
      let right = same_spine_head d f.0 (t ∷ ts) (f.3 ∷ f.5) (sym is' ∙ f.9) in
      none f.1 (ap (type_of scope []) (head ∙ left) ∙ f.7) (head ∙ left ∙ sym right ∙ sym head')
  dec_found i n b u v None q None at is_base h k none = λ alternatives g.
      let f = dec_parts i b u v alternatives at g in
      h f.0 f.2 f.4 f.6 f.8
  dec_found i n b u v (Some p) None None at is_base h k none = λ alternatives g.
      let f = dec_parts i b u v alternatives at g in
      k f.0 f.3 f.5 f.6 f.9
  dec_found i n b u v None q (Some as') at is_base h k g = absurd g
  dec_found i n b u v (Some p) None (Some as') at is_base h k g = absurd g

  -- an equation at another type isn't decomposed
  pub not_decomposed : (i : ℕ) (b : SimpleType) (u v : Lambda) → StandsAt branch i false (eq b u v) → (((n : ℕ) × (b ≡ base (suc n))) → ⊥) → FindsInstance scope rows branch (AtOne Dec i) None
  not_decomposed i b u v at other = λ alternatives g.
      let f = fits scope rows (AtOne Dec i) g.principals alternatives g.fits in
      let places = subst (AreAt branch (i ∷ [])) f.9 g.at_places in
      let e = same_atom branch i false (eq b u v) (eq (base (suc f.0)) (applied (constant f.1) (f.3 ∷ f.5)) (applied (constant f.1) (f.4 ∷ f.6))) at places.0 in
      let p : b ≡ base (suc f.0) = cc in
      other (f.0, p)
