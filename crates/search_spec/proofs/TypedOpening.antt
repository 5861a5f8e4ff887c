-- Partial terms are opened, and grow, as typed ones.
use Rattle.std.specs.Prelude.{◌≡◌, ◌+◌, ℕ, suc, Bool, true, false, List, [], ◌∷◌, ◌++◌, map, Option, Some, None, slice_get, unwrap_or, refl, if◌then◌else◌}
use Rattle.std.proofs.Common.{sym, ap, ◌∙◌, subst, arith}
use Rattle.stt_core.specs.SimpleType.{SimpleType, base, arrow, formula, is_declared, same_type, target}
use Rattle.stt_core.specs.Lambda.{witness, Lambda, constant, IsLeaf}
use Rattle.stt_core.specs.Typing.{Scope, IsScope, constant_type}
use Rattle.stt_core.specs.Canonical.{IsCanonical, IsNeutral}
use Rattle.stt_core.proofs.ListLaws.{mapped_get}
use Rattle.stt_core.proofs.TypeLaws.{type_of-neutral, constant_declared, same_type-true}
use Rattle.normal_forms.specs.Normal.{eta}
use Rattle.normal_forms.proofs.NormalValues.{canonical-eta}
use Rattle.tableau_calculus.specs.Witnesses.{Row, with_rows}
use Rattle.tableau_calculus.specs.Each.{Each}
use Rattle.search_spec.specs.Partial.{Partial, head, Hole, first_hole, with_filling, whole_term, blank_partial, with_holes}
use Rattle.search_spec.specs.TypedPartial.{IsPartial, IsPartialSpine}
use Rattle.search_spec.specs.Heads.{HeadOffers, fitting_heads, heads_for}
use Rattle.search_spec.specs.State.{State, Setting, Sketch, grow, scope_in}
use Rattle.search_spec.specs.Terms.{with_terms, with_opening, first_terms}
use Rattle.search_spec.specs.Offers.{offers_terms, is_prepared, witness_terms, early_terms}
use Rattle.search_spec.specs.Preparing.{with_beginning, with_preparation}
use Rattle.search_spec.specs.Commands.{with_growth, filling_at, growth_by}
use Rattle.search_spec.specs.TypedState.{FitsHole, GrowsSketch, IsTypedSketch, IsTypedCommand, IsTypedStateWith}
use Rattle.search_spec.proofs.NamingLaws.{each-joined, pick_good}
use Rattle.search_spec.proofs.PartialLaws.{blank_typed, with_holes_typed, fills, whole_canonical}
use Rattle.search_spec.proofs.TypedHeads.{heads_fit, declared_at}
use Rattle.search_spec.proofs.TypedPushes.{each_mapped, pushed-typed, with_term-typed, with_terms-typed, first_terms-typed}

module _ (setting : Setting) (rows : List Row) (good : IsScope (with_rows setting.scope rows)) where
  abbrev over : Scope
  over = with_rows setting.scope rows

  abbrev Good : State → Type 0
  Good s = IsTypedStateWith setting rows s

  growing : (offers : HeadOffers) (p : Sketch) → IsTypedSketch over p → (o : Option Hole) → first_hole [] p.partial ≡ o → Each (IsTypedCommand over) (map (grow p) (heads_for offers over o))
  growing offers p t None e = tt
  growing offers p t (Some h) e =
      let d = declared_at over good [] p.type p.partial h tt t.declared t.typed e in
      each_mapped (FitsHole over h) (IsTypedCommand over) (grow p) (λ x f. record { sketch = t; hole = h; is_first = e; fits = f })
      (fitting_heads offers over h) (heads_fit over good h.context offers h.base d.context d.type)

  pub opened-typed : (p : Sketch) (s : State) → IsTypedSketch over p → Good s → Good (with_opening setting p s)
  opened-typed p s t g =
      let P : List Row → Type 0 = λ r. Each (IsTypedCommand over) (map (grow p) (heads_for s.offers (with_rows setting.scope r) (first_hole [] p.partial))) in
      pushed-typed setting rows (map (grow p) (heads_for s.offers (scope_in setting s) (first_hole [] p.partial))) (record s { parked = s.parked ++ p ∷ [] })
      (subst P (sym g.are_rows) (growing s.offers p t (first_hole [] p.partial) refl))
      (record { are_rows = g.are_rows; noted = g.noted; terms = g.terms; parked = each-joined (IsTypedSketch over) s.parked (p ∷ []) g.parked (t, tt); queue = g.queue })

  begun-typed : (a : SimpleType) (s : State) → is_declared setting.scope.bases a ≡ true → Good s → Good (with_beginning setting a s)
  begun-typed (base n) s d g = with_terms-typed setting rows (base n) (first_terms (base n)) s (first_terms-typed setting rows n d) g
  begun-typed (arrow a b) s d g =
      opened-typed (record { type = arrow a b; partial = blank_partial (arrow a b) }) s (record { declared = d; typed = blank_typed over [] (arrow a b) d }) g

  -- the eta-long form of a witness has the type of its row
  pub witness-typed : (k : ℕ) (r : Row) → slice_get rows k ≡ Some r → IsCanonical over [] r.type (eta r.type (constant (witness k)))
  witness-typed k r e =
      let type_is : constant_type over (witness k) ≡ Some r.type = mapped_get (λ (q : Row). q.type) rows k r e in
      canonical-eta over [] r.type (constant (witness k)) (constant_declared over good (witness k) r.type type_is) type_is

  witnesses-typed : (a : SimpleType) (k : ℕ) (qs : List Row) → ((i : ℕ) (r : Row) → slice_get qs i ≡ Some r → slice_get rows (k + i) ≡ Some r) → Each (IsCanonical over [] a) (witness_terms a k qs)
  witnesses-typed a k [] f = tt
  witnesses-typed a k (r ∷ qs) f =
      by_test (same_type a r.type) refl
      (witnesses-typed a (suc k) qs (λ i q e.
      let same : k + suc i ≡ suc k + i = omega arith in
      let P : ℕ → Type 0 = λ j. slice_get rows j ≡ Some q in
      subst P same (f (suc i) q e)))
    where
      by_test : (b : Bool) → same_type a r.type ≡ b → Each (IsCanonical over [] a) (witness_terms a (suc k) qs) → Each (IsCanonical over [] a) (if b then eta a (constant (witness k)) ∷ witness_terms a (suc k) qs else witness_terms a (suc k) qs)
      by_test false e rest = rest
      by_test true e rest =
          let same : k + 0 ≡ k = omega arith in
          let at : slice_get rows k ≡ Some r = (let P : ℕ → Type 0 = λ j. slice_get rows j ≡ Some r in subst P same (f 0 r refl)) in
          let C : SimpleType → Type 0 = λ b. IsCanonical over [] b (eta b (constant (witness k))) in
          (subst C (sym (same_type-true a r.type e)) (witness-typed k r at), rest)

  early-typed : (a : SimpleType) (s : State) → Good s → Each (IsCanonical over [] a) (early_terms setting.mode a s)
  early-typed a s g =
      let P : List Row → Type 0 = λ qs. Each (IsCanonical over [] a) (witness_terms a 0 qs) in
      let all = witnesses-typed a 0 rows (λ i r e. let same : i ≡ 0 + i = omega arith in let Q : ℕ → Type 0 = λ j. slice_get rows j ≡ Some r in subst Q same e) in
      pick_good (Each (IsCanonical over [] a)) (offers_terms setting.mode) (witness_terms a 0 s.rows) [] (subst P (sym g.are_rows) all) tt

  pub prepared-typed : (a : SimpleType) (s : State) → is_declared setting.scope.bases a ≡ true → Good s → Good (with_preparation setting a s)
  prepared-typed a s d g =
      let more = with_terms setting.mode a (early_terms setting.mode a s) s in
      pick_good Good (is_prepared setting.mode a s) s (with_beginning setting a more) g
      (begun-typed a more d (with_terms-typed setting rows a (early_terms setting.mode a s) s (early-typed a s g) g))

  leaf_spine : (ctx : List SimpleType) (a : SimpleType) (t : Lambda) → IsLeaf t → IsNeutral over ctx a t → IsPartialSpine over ctx a (head t)
  leaf_spine ctx a t l n = (l, n)

  -- the partial term that has grown
  pub grown_by-typed : (p : Sketch) (t : Lambda) → GrowsSketch over p t → IsTypedSketch over (growth_by over t p)
  grown_by-typed p t g =
      let h = g.hole in
      let f = g.fits in
      let P : SimpleType → Type 0 = λ a. IsPartial over h.context (base (target a)) (with_holes a (head t)) in
      let r : Partial = with_holes f.type (head t) in
      let Q : ℕ → Type 0 = λ n. IsPartial over h.context (base n) r in
      let typed = subst Q f.gives (with_holes_typed over h.context f.type (head t) f.declared (leaf_spine h.context f.type t f.leaf f.has_type)) in
      let done = fills over r h typed [] p.type p.partial g.sketch.typed g.is_first in
      let is : filling_at over t p.partial (first_hole [] p.partial) ≡ Some done.0 =
      ap (filling_at over t p.partial) g.is_first ∙ ap (λ o. with_filling (with_holes (unwrap_or o formula) (head t)) p.partial) (type_of-neutral over h.context f.type t f.has_type) ∙ done.1 in
      let R : Partial → Type 0 = λ q. IsPartial over [] p.type q in
      record { declared = g.sketch.declared; typed = subst R (sym (ap (λ o. unwrap_or o p.partial) is)) done.2 }

  -- a grown partial term is a term, or is opened
  grown_is : (q : Sketch) (s : State) → IsTypedSketch over q → Good s → (o : Option Lambda) → whole_term q.partial ≡ o → Good (with_growth setting q o s)
  grown_is q s t g (Some u) e = with_term-typed setting rows q.type u s (whole_canonical over [] q.type q.partial u t.typed e) g
  grown_is q s t g None e = opened-typed q s t g

  pub grow-typed : (p : Sketch) (t : Lambda) (s : State) → GrowsSketch over p t → Good s → Good (with_growth setting (growth_by (scope_in setting s) t p) (whole_term (growth_by (scope_in setting s) t p).partial) s)
  grow-typed p t s h g =
      let P : List Row → Type 0 = λ r. Good (with_growth setting (growth_by (with_rows setting.scope r) t p) (whole_term (growth_by (with_rows setting.scope r) t p).partial) s) in
      let q = growth_by over t p in
      subst P (sym g.are_rows) (grown_is q s (grown_by-typed p t h) g (whole_term q.partial) refl)
