-- Partial terms grow as they are to.
use Rattle.std.specs.Prelude.{◌≡◌, true, IsTrue, List, ◌∷◌, Option, Some, None, option_map, option_and_then, refl}
use Rattle.std.proofs.Common.{sym, ap, ◌∙◌, subst}
use Rattle.std.proofs.lemmas.Bool.{and_parts}
use Rattle.stt_core.specs.SimpleType.{SimpleType, base, arrow, is_declared, target}
use Rattle.stt_core.specs.Lambda.{Lambda, bound, constant, lam, app, IsLeaf}
use Rattle.stt_core.specs.Typing.{Scope}
use Rattle.stt_core.specs.Canonical.{IsBase, IsFrom, IsCanonical, IsNeutral}
use Rattle.search_spec.specs.Partial.{Partial, hole, head, function, application, Hole, or_else, first_hole, in_first, with_filling, whole_term, blank_partial, with_holes}
use Rattle.search_spec.specs.TypedPartial.{IsPartial, IsPartialSpine}

-- what is typed under a binder in one way is typed in another, where each body is
pub from_map : (a b : SimpleType) (P Q : SimpleType → Type 0) → ((c : SimpleType) → P c → Q c) → IsFrom a b P → IsFrom a b Q
from_map a (base n) P Q f h = h
from_map a (arrow c b) P Q f h = (h.0, f b h.1)

pub some_same : {A : Type 0} (x y : A) → Some x ≡ Some y → x ≡ y
some_same x y e = cc

pub none_some : {A : Type 0} (x : A) → None ≡ Some x → ⊥
none_some x e = cc

neither : {A : Type 0} (x y : Option A) → or_else x y ≡ None → (x ≡ None) × (y ≡ None)
neither (Some x) y e = cc
neither None y e = (refl, e)

module _ (scope : Scope) where
  leaf_canonical : (ctx : List SimpleType) (a : SimpleType) (h : Lambda) → IsBase a → IsLeaf h → IsNeutral scope ctx a h → IsCanonical scope ctx a h
  leaf_canonical ctx a (bound k) b l n = (b, n)
  leaf_canonical ctx a (constant c) b l n = (b, n)
  leaf_canonical ctx a (lam c s) b l n = absurd l
  leaf_canonical ctx a (app s u) b l n = absurd l

  -- one hole under the binders of a type
  pub blank_typed : (ctx : List SimpleType) (a : SimpleType) → is_declared scope.bases a ≡ true → IsPartial scope ctx a (blank_partial a)
  blank_typed ctx (base n) d = refl
  blank_typed ctx (arrow a b) d = let p = and_parts _ _ d in (p.0, (refl, blank_typed (a ∷ ctx) b p.1))

  spine_partial : (ctx : List SimpleType) (a : SimpleType) (p : Partial) → IsBase a → IsPartialSpine scope ctx a p → IsPartial scope ctx a p
  spine_partial ctx a (hole n) b h = absurd h
  spine_partial ctx a (head l) b h = (b, h.0, h.1)
  spine_partial ctx a (application p q) b h = (b, (h.0, h.1, h.2))
  spine_partial ctx a (function c p) b h = absurd h

  -- a head with holes for its arguments
  pub with_holes_typed : (ctx : List SimpleType) (a : SimpleType) (p : Partial) → is_declared scope.bases a ≡ true → IsPartialSpine scope ctx a p → IsPartial scope ctx (base (target a)) (with_holes a p)
  with_holes_typed ctx (base n) p d h = spine_partial ctx (base n) p tt h
  with_holes_typed ctx (arrow a b) p d h =
      let q = and_parts _ _ d in
      with_holes_typed ctx b (application p (blank_partial a)) q.1 (a, h, blank_typed ctx a q.0)

  none_filled : (r : Partial) (ctx : List SimpleType) (p : Partial) → first_hole ctx p ≡ None → with_filling r p ≡ None
  none_filled r ctx (hole n) e = cc
  none_filled r ctx (head h) e = refl
  none_filled r ctx (function a p) e = ap (option_map (function a)) (none_filled r (a ∷ ctx) p e)
  none_filled r ctx (application p q) e =
      let both = neither (first_hole ctx p) (first_hole ctx q) e in
      ap (λ o. in_first o p (with_filling r q) q) (none_filled r ctx p both.0) ∙ ap (λ o. in_first None p o q) (none_filled r ctx q both.1)

  -- the first hole was filled with a partial term, and what came of it is typed as wanted
  abbrev pub Fills : (Partial → Type 0) → Partial → Partial → Type 0
  Fills Typed r p = (q : Partial) × (with_filling r p ≡ Some q) × Typed q

  -- the hole is in the first of two, or in the second
  in_either : (P Q R : Partial → Type 0) (r : Partial) (ctx : List SimpleType) (p q : Partial) (h : Hole) → P p → Q q → ((p' q' : Partial) → P p' → Q q' → R (application p' q')) → (o : Option Hole) → first_hole ctx p ≡ o → or_else o (first_hole ctx q) ≡ Some h → (first_hole ctx p ≡ Some h → Fills P r p) → (first_hole ctx q ≡ Some h → Fills Q r q) → Fills R r (application p q)
  in_either P Q R r ctx p q h tp tq make (Some g) f e left right =
      let l = left (f ∙ e) in
      (application l.0 q, ap (λ o. in_first o p (with_filling r q) q) l.1, make l.0 q l.2 tq)
  in_either P Q R r ctx p q h tp tq make None f e left right =
      let l = right e in
      (application p l.0, ap (λ o. in_first o p (with_filling r q) q) (none_filled r ctx p f) ∙ ap (λ o. in_first None p o q) l.1, make p l.0 tp l.2)

  under_binder : (ctx : List SimpleType) (a c : SimpleType) (r p : Partial) → IsTrue (is_declared scope.bases c) → IsFrom c a (λ b. Fills (IsPartial scope (c ∷ ctx) b) r p) → Fills (IsPartial scope ctx a) r (function c p)
  under_binder ctx (base n) c r p d f = absurd f
  under_binder ctx (arrow a b) c r p d f = (function c f.1.0, ap (option_map (function c)) f.1.1, (d, (f.0, f.1.2)))

  mutual
    -- A typed partial term stays typed where its first hole is filled with a partial term of the hole's type.
    pub fills : (r : Partial) (h : Hole) → IsPartial scope h.context (base h.base) r → (ctx : List SimpleType) (a : SimpleType) (p : Partial) → IsPartial scope ctx a p → first_hole ctx p ≡ Some h → Fills (IsPartial scope ctx a) r p
    fills r h k ctx a (hole n) t e =
        let same : record { base = n; context = ctx } ≡ h = some_same _ _ e in
        let P : Hole → Type 0 = λ g. IsPartial scope g.context (base g.base) r in
        let Q : SimpleType → Type 0 = λ b. IsPartial scope ctx b r in
        (r, refl, subst Q (sym t) (subst P (sym same) k))
    fills r h k ctx a (head l) t e = absurd (none_some h e)
    fills r h k ctx a (function c p) t e = under_binder ctx a c r p t.0 (from_map c a _ _ (λ b u. fills r h k (c ∷ ctx) b p u e) t.1)
    fills r h k ctx a (application p q) t e =
        in_either (IsPartialSpine scope ctx (arrow t.1.0 a)) (IsPartial scope ctx t.1.0) (IsPartial scope ctx a) r ctx p q h t.1.1 t.1.2 (λ p' q' u v. (t.0, (t.1.0, u, v))) (first_hole ctx p) refl e
        (λ f. fills_spine r h k ctx (arrow t.1.0 a) p t.1.1 f)
        (λ f. fills r h k ctx t.1.0 q t.1.2 f)

    fills_spine : (r : Partial) (h : Hole) → IsPartial scope h.context (base h.base) r → (ctx : List SimpleType) (a : SimpleType) (p : Partial) → IsPartialSpine scope ctx a p → first_hole ctx p ≡ Some h → Fills (IsPartialSpine scope ctx a) r p
    fills_spine r h k ctx a (hole n) t e = absurd t
    fills_spine r h k ctx a (head l) t e = absurd (none_some h e)
    fills_spine r h k ctx a (function c p) t e = absurd t
    fills_spine r h k ctx a (application p q) t e =
        in_either (IsPartialSpine scope ctx (arrow t.0 a)) (IsPartial scope ctx t.0) (IsPartialSpine scope ctx a) r ctx p q h t.1 t.2 (λ p' q' u v. (t.0, u, v)) (first_hole ctx p) refl e
        (λ f. fills_spine r h k ctx (arrow t.0 a) p t.1 f)
        (λ f. fills r h k ctx t.0 q t.2 f)

  whole_app : (p q : Partial) (t : Lambda) → option_and_then (λ s. option_map (app s) (whole_term q)) (whole_term p) ≡ Some t → (s : Lambda) × (u : Lambda) × (whole_term p ≡ Some s) × (whole_term q ≡ Some u) × (t ≡ app s u)
  whole_app p q t e = parts (whole_term p) (whole_term q) refl refl e
    where
      parts : (x y : Option Lambda) → whole_term p ≡ x → whole_term q ≡ y → option_and_then (λ s. option_map (app s) y) x ≡ Some t → (s : Lambda) × (u : Lambda) × (whole_term p ≡ Some s) × (whole_term q ≡ Some u) × (t ≡ app s u)
      parts (Some s) (Some u) f g e = (s, u, f, g, sym (some_same _ _ e))
      parts (Some s) None f g e = absurd (none_some t e)
      parts None y f g e = absurd (none_some t e)

  whole_lam : (c : SimpleType) (p : Partial) (t : Lambda) → option_map (lam c) (whole_term p) ≡ Some t → (s : Lambda) × (whole_term p ≡ Some s) × (t ≡ lam c s)
  whole_lam c p t e = part (whole_term p) refl e
    where
      part : (x : Option Lambda) → whole_term p ≡ x → option_map (lam c) x ≡ Some t → (s : Lambda) × (whole_term p ≡ Some s) × (t ≡ lam c s)
      part (Some s) f e = (s, f, sym (some_same _ _ e))
      part None f e = absurd (none_some t e)

  mutual
    -- a typed partial term without holes is a canonical term
    pub whole_canonical : (ctx : List SimpleType) (a : SimpleType) (p : Partial) (t : Lambda) → IsPartial scope ctx a p → whole_term p ≡ Some t → IsCanonical scope ctx a t
    whole_canonical ctx a (hole n) t h e = absurd (none_some t e)
    whole_canonical ctx a (head l) t h e =
        let P : Lambda → Type 0 = λ s. IsCanonical scope ctx a s in
        subst P (some_same _ _ e) (leaf_canonical ctx a l h.0 h.1 h.2)
    whole_canonical ctx a (function c p) t h e =
        let w = whole_lam c p t e in
        let P : Lambda → Type 0 = λ s. IsCanonical scope ctx a s in
        subst P (sym w.2) (h.0, from_map c a _ _ (λ b u. whole_canonical (c ∷ ctx) b p w.0 u w.1) h.1)
    whole_canonical ctx a (application p q) t h e =
        let w = whole_app p q t e in
        let P : Lambda → Type 0 = λ s. IsCanonical scope ctx a s in
        subst P (sym w.4) (h.0, (h.1.0, whole_neutral ctx (arrow h.1.0 a) p w.0 h.1.1 w.2, whole_canonical ctx h.1.0 q w.1 h.1.2 w.3))

    whole_neutral : (ctx : List SimpleType) (a : SimpleType) (p : Partial) (t : Lambda) → IsPartialSpine scope ctx a p → whole_term p ≡ Some t → IsNeutral scope ctx a t
    whole_neutral ctx a (hole n) t h e = absurd h
    whole_neutral ctx a (head l) t h e =
        let P : Lambda → Type 0 = λ s. IsNeutral scope ctx a s in
        subst P (some_same _ _ e) h.1
    whole_neutral ctx a (function c p) t h e = absurd h
    whole_neutral ctx a (application p q) t h e =
        let w = whole_app p q t e in
        let P : Lambda → Type 0 = λ s. IsNeutral scope ctx a s in
        subst P (sym w.4) (h.0, whole_neutral ctx (arrow h.0 a) p w.0 h.1 w.2, whole_canonical ctx h.0 q w.1 h.2 w.3)
