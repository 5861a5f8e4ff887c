-- The choices and the descriptions in a formula are by typed predicates.
use Rattle.std.specs.Prelude.{◌≡◌, ◌≤◌, ℕ, zero, suc, Bool, true, false, List, [], ◌∷◌, ◌++◌, length, Some, None, slice_get, refl, if◌then◌else◌}
use Rattle.std.specs.List.{list_any}
use Rattle.std.proofs.Common.{sym, ◌∙◌, subst, arith}
use Rattle.std.proofs.lemmas.Bool.{ltb-true, and_parts}
use Rattle.stt_core.specs.SimpleType.{SimpleType, base, arrow, predicate, is_declared}
use Rattle.stt_core.specs.Lambda.{name, witness, falsity, negation, implication, all, equality, choice, description, Lambda, bound, constant, lam, app}
use Rattle.stt_core.specs.Typing.{Scope}
use Rattle.stt_core.specs.Canonical.{IsFrom, IsCanonical, IsNeutral}
use Rattle.stt_core.specs.SameTerm.{same_term}
use Rattle.stt_core.proofs.TypeLaws.{given}
use Rattle.tableau_calculus.specs.Witnesses.{Row, with_rows}
use Rattle.tableau_calculus.specs.Each.{Each}
use Rattle.search_spec.specs.Closed.{is_bound_by, is_closed}
use Rattle.search_spec.specs.Selections.{Selection, by_choice, by_description, selection_by, selections_in, with_selection, with_selections}
use Rattle.search_spec.specs.State.{State, Setting, choose, describe, with_commands}
use Rattle.search_spec.specs.TypedState.{IsTypedStateWith}
use Rattle.search_spec.proofs.NamingLaws.{each-joined, pick_good}
use Rattle.search_spec.proofs.PartialLaws.{from_map}
use Rattle.search_spec.proofs.TypedPushes.{pushed-typed}

got_front : {A : Type 0} (front back : List A) (k : ℕ) → suc k ≤ length front → slice_get (front ++ back) k ≡ slice_get front k
got_front [] back k h = absurd (omega (arith, h))
got_front (x ∷ front) back zero h = refl
got_front (x ∷ front) back (suc k) h = got_front front back k (omega (arith, h))

module _ (scope : Scope) where
  mutual
    -- a canonical term whose free variables are among the innermost ones needs no other ones
    narrowed : (front back : List SimpleType) (a : SimpleType) (t : Lambda) → is_bound_by (length front) t ≡ true → IsCanonical scope (front ++ back) a t → IsCanonical scope front a t
    narrowed front back a (bound k) m h = (h.0, sym (got_front front back k (ltb-true k (length front) m)) ∙ h.1)
    narrowed front back a (constant c) m h = h
    narrowed front back a (lam c s) m h = (h.0, from_map c a _ _ (λ b k. narrowed (c ∷ front) back b s m k) h.1)
    narrowed front back a (app s u) m h =
        let p = and_parts _ _ m in
        (h.0, (h.1.0, narrowed_neutral front back (arrow h.1.0 a) s p.0 h.1.1, narrowed front back h.1.0 u p.1 h.1.2))

    narrowed_neutral : (front back : List SimpleType) (a : SimpleType) (t : Lambda) → is_bound_by (length front) t ≡ true → IsNeutral scope (front ++ back) a t → IsNeutral scope front a t
    narrowed_neutral front back a (bound k) m h = sym (got_front front back k (ltb-true k (length front) m)) ∙ h
    narrowed_neutral front back a (constant c) m h = h
    narrowed_neutral front back a (lam c s) m h = h
    narrowed_neutral front back a (app s u) m h =
        let p = and_parts _ _ m in
        (h.0, narrowed_neutral front back (arrow h.0 a) s p.0 h.1, narrowed front back h.0 u p.1 h.2)

  abbrev pub IsPredicate : Selection → Type 0
  IsPredicate (by_choice a f) = IsCanonical scope [] (predicate a) f
  IsPredicate (by_description a f) = IsCanonical scope [] (predicate a) f

  closed_predicate : (ctx : List SimpleType) (a b c : SimpleType) (f : Lambda) → (if is_declared scope.bases a then Some (arrow (predicate a) a) else None) ≡ Some (arrow c b) → IsCanonical scope ctx c f → is_closed f ≡ true → IsCanonical scope [] (predicate a) f
  closed_predicate ctx a b c f n h e =
      let g = given scope a (arrow (predicate a) a) (arrow c b) n in
      let is = g.is in
      let p : c ≡ predicate a = cc in
      let P : SimpleType → Type 0 = λ x. IsCanonical scope ctx x f in
      narrowed [] ctx (predicate a) f e (subst P p h)

  one_or_none : (p : Selection) (t t' : Bool) → t ≡ t' → (t ≡ true → IsPredicate p) → Each IsPredicate (if t' then p ∷ [] else [])
  one_or_none p t false e h = tt
  one_or_none p t true e h = (h e, tt)

  selection_by-typed : (ctx : List SimpleType) (b c : SimpleType) (s f : Lambda) → IsNeutral scope ctx (arrow c b) s → IsCanonical scope ctx c f → Each IsPredicate (selection_by s f)
  selection_by-typed ctx b c (constant (choice a)) f n h = one_or_none (by_choice a f) (is_closed f) (is_closed f) refl (closed_predicate ctx a b c f n h)
  selection_by-typed ctx b c (constant (description a)) f n h = one_or_none (by_description a f) (is_closed f) (is_closed f) refl (closed_predicate ctx a b c f n h)
  selection_by-typed ctx b c (constant (name k)) f n h = tt
  selection_by-typed ctx b c (constant (witness k)) f n h = tt
  selection_by-typed ctx b c (constant falsity) f n h = tt
  selection_by-typed ctx b c (constant negation) f n h = tt
  selection_by-typed ctx b c (constant implication) f n h = tt
  selection_by-typed ctx b c (constant (all a)) f n h = tt
  selection_by-typed ctx b c (constant (equality a)) f n h = tt
  selection_by-typed ctx b c (bound k) f n h = tt
  selection_by-typed ctx b c (lam a s) f n h = tt
  selection_by-typed ctx b c (app s u) f n h = tt

  under : (ctx : List SimpleType) (c a : SimpleType) (rs : List Selection) → IsFrom c a (λ b. Each IsPredicate rs) → Each IsPredicate rs
  under ctx c (base n) rs h = absurd h
  under ctx c (arrow x b) rs h = h.1

  app_typed : (ctx : List SimpleType) (a c : SimpleType) (s u : Lambda) → IsNeutral scope ctx (arrow c a) s → IsCanonical scope ctx c u → Each IsPredicate (selections_in s) → Each IsPredicate (selections_in u) → Each IsPredicate (selections_in (app s u))
  app_typed ctx a c s u n h left right =
      each-joined IsPredicate (selection_by s u ++ selections_in s) (selections_in u) (each-joined IsPredicate (selection_by s u) (selections_in s) (selection_by-typed ctx a c s u n h) left) right

  mutual
    pub selections_in-typed : (ctx : List SimpleType) (a : SimpleType) (t : Lambda) → IsCanonical scope ctx a t → Each IsPredicate (selections_in t)
    selections_in-typed ctx a (bound k) h = tt
    selections_in-typed ctx a (constant c) h = tt
    selections_in-typed ctx a (lam c s) h = under ctx c a (selections_in s) (from_map c a _ _ (λ b k. selections_in-typed (c ∷ ctx) b s k) h.1)
    selections_in-typed ctx a (app s u) h = app_typed ctx a h.1.0 s u h.1.1 h.1.2 (neutral_typed ctx (arrow h.1.0 a) s h.1.1) (selections_in-typed ctx h.1.0 u h.1.2)

    neutral_typed : (ctx : List SimpleType) (a : SimpleType) (t : Lambda) → IsNeutral scope ctx a t → Each IsPredicate (selections_in t)
    neutral_typed ctx a (bound k) h = tt
    neutral_typed ctx a (constant c) h = tt
    neutral_typed ctx a (lam c s) h = absurd h
    neutral_typed ctx a (app s u) h = app_typed ctx a h.0 s u h.1 h.2 (neutral_typed ctx (arrow h.0 a) s h.1) (selections_in-typed ctx h.0 u h.2)

module _ (setting : Setting) (rows : List Row) where
  abbrev over : Scope
  over = with_rows setting.scope rows

  abbrev Good : State → Type 0
  Good s = IsTypedStateWith setting rows s

  with_selection-typed : (p : Selection) (s : State) → IsPredicate over p → Good s → Good (with_selection setting.mode p s)
  with_selection-typed (by_choice a f) s h g =
      let more = s.chosen ++ f ∷ [] in
      pick_good Good (list_any (same_term f) s.chosen) s (with_commands setting.mode (choose a f ∷ []) (record s { chosen = more })) g
      (pushed-typed setting rows (choose a f ∷ []) (record s { chosen = more }) (h, tt)
      (record { are_rows = g.are_rows; noted = g.noted; terms = g.terms; parked = g.parked; queue = g.queue }))
  with_selection-typed (by_description a f) s h g =
      let more = s.described ++ f ∷ [] in
      pick_good Good (list_any (same_term f) s.described) s (with_commands setting.mode (describe a f ∷ []) (record s { described = more })) g
      (pushed-typed setting rows (describe a f ∷ []) (record s { described = more }) (h, tt)
      (record { are_rows = g.are_rows; noted = g.noted; terms = g.terms; parked = g.parked; queue = g.queue }))

  pub with_selections-typed : (ps : List Selection) (s : State) → Each (IsPredicate over) ps → Good s → Good (with_selections setting.mode ps s)
  with_selections-typed [] s h g = g
  with_selections-typed (p ∷ ps) s h g = with_selections-typed ps (with_selection setting.mode p s) h.1 (with_selection-typed p s h.0 g)
