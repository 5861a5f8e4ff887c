-- Every state of a run is typed.
use Rattle.std.specs.Prelude.{◌≡◌, ℕ, Bool, true, false, List, [], ◌∷◌, ◌++◌, map, filter, Option, Some, None, slice_get, refl, if◌then◌else◌}
use Rattle.std.specs.List.{list_any, position_or_len}
use Rattle.std.proofs.Common.{sym, ap, ◌∙◌, subst, eqb-true}
use Rattle.stt_core.specs.SimpleType.{SimpleType, formula, target}
use Rattle.stt_core.specs.Lambda.{witness, all, equality, Lambda, constant, app, eq, every}
use Rattle.stt_core.specs.Typing.{Scope, IsScope, constant_type}
use Rattle.stt_core.specs.Canonical.{IsCanonical}
use Rattle.stt_core.specs.SameTerm.{same_term}
use Rattle.normal_forms.specs.Normal.{eta}
use Rattle.stt_core.proofs.ListLaws.{mapped_get, slice_get-end}
use Rattle.stt_core.proofs.TypeLaws.{constant_declared}
use Rattle.tableau_calculus.specs.Literals.{Literal, plus, minus, IsLiteral, IsBranch}
use Rattle.tableau_calculus.specs.Witnesses.{Row, with_rows, IsTable}
use Rattle.tableau_calculus.specs.Rules.{all_neg_rule, all_neg}
use Rattle.tableau_calculus.specs.declared.rule_use.RuleUse.TheVariants.{AtOne}
use Rattle.tableau_calculus.specs.declared.rule_use.OnePlace.TheVariants.{AllNeg}
use Rattle.tableau_calculus.proofs.AloneLaws.{alone_typed}
use Rattle.tableau_calculus.proofs.FunctionLaws.{every_canonical}
use Rattle.tableau_calculus.specs.Each.{Each}
use Rattle.search_spec.specs.Partial.{Hole, first_hole}
use Rattle.search_spec.specs.State.{State, Setting, grow, scope_in}
use Rattle.search_spec.specs.Instances.{with_instance}
use Rattle.search_spec.specs.Terms.{with_terms}
use Rattle.search_spec.specs.Offers.{takes_witness, offered_witness}
use Rattle.search_spec.specs.Selections.{selections_in, with_selections}
use Rattle.search_spec.specs.Witness.{same_row, witness_of, is_hole_of, has_hole_of, with_new_witness, with_denied}
use Rattle.search_spec.specs.Processing.{with_equation, LiteralRule, connective_rule, with_connective, with_rules, with_processing}
use Rattle.search_spec.specs.TypedState.{GrowsSketch, IsTypedSketch, IsTypedCommand, IsTypedStateWith, IsTypedState}
use Rattle.search_spec.proofs.NamingLaws.{pick_good}
use Rattle.search_spec.proofs.TypedAlternatives.{alternatives_typed}
use Rattle.search_spec.proofs.TypedPushes.{each_mapped, each_filtered, pushed-typed, with_instance-typed, with_terms-typed}
use Rattle.search_spec.proofs.TypedOpening.{witness-typed}
use Rattle.search_spec.proofs.TypedSelections.{selections_in-typed, with_selections-typed}
use Rattle.search_spec.proofs.WiderLaws.{literal_wider, state_wider}
use Rattle.search_spec.proofs.RowLaws.{row_at, no_row, table_with, table_scope}
use Rattle.search_spec.proofs.TypedProcessing.{mated-typed, equated-typed, quantified-typed}

-- a state that is typed with a witness table, over which a literal is one
pub record Worked (setting : Setting) (l : Literal) (s : State) : Type 0 where
  pub rows : List Row
  pub table : IsTable setting.scope rows
  pub literal : IsLiteral (with_rows setting.scope rows) l
  pub typed : IsTypedStateWith setting rows s

hole_is : (n : ℕ) (o : Option Hole) → is_hole_of n o ≡ true → (h : Hole) × (o ≡ Some h) × (h.base ≡ n)
hole_is n None e = cc
hole_is n (Some h) e = (h, refl, eqb-true h.base n e)

module _ (setting : Setting) (over : IsScope setting.scope) where
  module _ (s : State) (state : IsTypedState setting s) where
    good : IsScope (scope_in setting s)
    good = table_scope setting.scope s.rows over state.table

    same_rows : (l : Literal) (t : State) → IsLiteral (scope_in setting s) l → IsTypedStateWith setting s.rows t → Worked setting l t
    same_rows l t h g = record { rows = s.rows; table = state.table; literal = h; typed = g }

    known_witness : (a : SimpleType) (f : Lambda) → IsLiteral (scope_in setting s) (minus (every a f)) → list_any (same_row (record { type = a; predicate = f })) s.rows ≡ true → IsTypedStateWith setting s.rows (with_instance setting.mode (minus (every a f) ∷ []) (all_neg a f (witness_of s.rows (record { type = a; predicate = f }))) s)
    known_witness a f h e =
        let r : Row = record { type = a; predicate = f } in
        with_instance-typed setting s.rows (minus (every a f) ∷ []) (all_neg a f (witness_of s.rows r)) s
        (alternatives_typed (scope_in setting s) good s.rows refl (AtOne AllNeg 0) _ _ (all_neg_rule 0 (position_or_len (same_row r) s.rows) a f (row_at s.rows r e)) (h, tt)) state.typed

  -- the partial terms that a new witness fits
  growths : (rows : List Row) (k : ℕ) (r : Row) → slice_get rows k ≡ Some r → IsScope (with_rows setting.scope rows) → (s : State) → IsTypedStateWith setting rows s → Each (IsTypedCommand (with_rows setting.scope rows)) (map (λ p. grow p (constant (witness k))) (filter (has_hole_of (target r.type)) s.parked))
  growths rows k r e good s g =
      let scope = with_rows setting.scope rows in
      each_mapped (λ p. GrowsSketch scope p (constant (witness k))) (IsTypedCommand scope) (λ p. grow p (constant (witness k))) (λ p h. h) (filter (has_hole_of (target r.type)) s.parked)
      (each_filtered (IsTypedSketch scope) (λ p. GrowsSketch scope p (constant (witness k))) (has_hole_of (target r.type))
      (λ p h t.
      let found = hole_is (target r.type) (first_hole [] p.partial) t in
      let type_is : constant_type scope (witness k) ≡ Some r.type = mapped_get (λ (q : Row). q.type) rows k r e in
      record {
        sketch = h;
        hole = found.0;
        is_first = found.1;
        fits = record { leaf = tt; type = r.type; has_type = type_is; declared = constant_declared scope good (witness k) r.type type_is; gives = sym found.2 };
      }) s.parked g.parked)

  module _ (s : State) (state : IsTypedState setting s) where
    new_witness : (a : SimpleType) (f : Lambda) → IsLiteral (scope_in setting s) (minus (every a f)) → list_any (same_row (record { type = a; predicate = f })) s.rows ≡ false → (let r : Row = record { type = a; predicate = f } in
        let w = witness_of s.rows r in
        let done = with_new_witness setting a w (with_instance setting.mode (minus (every a f) ∷ []) (all_neg a f w) (record s { rows = s.rows ++ r ∷ [] })) in
        Worked setting (minus (every a f)) (with_terms setting.mode a (offered_witness setting.mode a w done) done))
    new_witness a f h e =
        let r : Row = record { type = a; predicate = f } in
        let more = s.rows ++ r ∷ [] in
        let k = position_or_len (same_row r) s.rows in
        let at : slice_get more k ≡ Some r = ap (slice_get more) (no_row s.rows r e) ∙ slice_get-end s.rows r in
        let table = table_with setting.scope s.rows r state.table (every_canonical (scope_in setting s) a f h.formula).1 e in
        let good = table_scope setting.scope more over table in
        let h' = literal_wider setting.scope (r ∷ []) s.rows (minus (every a f)) h in
        let wide = record s { rows = more } in
        let added = with_instance setting.mode (minus (every a f) ∷ []) (all_neg a f (constant (witness k))) wide in
        let g = with_instance-typed setting more (minus (every a f) ∷ []) (all_neg a f (constant (witness k))) wide
        (alternatives_typed (with_rows setting.scope more) good more refl (AtOne AllNeg 0) _ _ (all_neg_rule 0 k a f at) (h', tt))
        (state_wider setting s.rows (r ∷ []) s state.typed) in
        let w = constant (witness k) in
        let done = with_new_witness setting a w added in
        let grown = pushed-typed setting more (map (λ p. grow p w) (filter (has_hole_of (target a)) added.parked)) added (growths more k r at good added g) g in
        let C : Lambda → Type 0 = IsCanonical (with_rows setting.scope more) [] a in
        record {
          rows = more;
          table = table;
          literal = h';
          typed = with_terms-typed setting more a (offered_witness setting.mode a w done) done (pick_good (Each C) (takes_witness setting.mode a done) (eta a w ∷ []) [] (witness-typed setting more good k r at, tt) tt) grown;
        }

    denied-typed : (a : SimpleType) (f : Lambda) → IsLiteral (scope_in setting s) (minus (every a f)) → Worked setting (minus (every a f)) (with_denied setting a f s)
    denied-typed a f h = by_test (list_any (same_row r) s.rows) refl
      where
        r : Row
        r = record { type = a; predicate = f }

        added : State → State
        added = with_instance setting.mode (minus (every a f) ∷ []) (all_neg a f (witness_of s.rows r))

        by_test : (b : Bool) → list_any (same_row r) s.rows ≡ b
            → (let done = (if b then added s else with_new_witness setting a (witness_of s.rows r) (added (record s { rows = s.rows ++ r ∷ [] }))) in
            Worked setting (minus (every a f)) (if b then done else with_terms setting.mode a (offered_witness setting.mode a (witness_of s.rows r) done) done))
        by_test true e = same_rows s state (minus (every a f)) (added s) h (known_witness s state a f h e)
        by_test false e = new_witness a f h e

  connected-typed : (l : Literal) (s : State) (state : IsTypedState setting s) → IsLiteral (scope_in setting s) l → (o : Option (LiteralRule l)) → Worked setting l (with_connective l setting o s)
  connected-typed l s state h None = same_rows s state l _ h (mated-typed setting s.rows (good s state) l s h state.typed)
  connected-typed l s state h (Some rule) =
      same_rows s state l _ h (with_instance-typed setting s.rows (l ∷ []) rule.alternatives s (alone_typed (scope_in setting s) rule.kind l rule.alternatives rule.fits h) state.typed)

  worked-typed : (sign : Bool) (t : Lambda) (s : State) → IsTypedState setting s → IsLiteral (scope_in setting s) (record { positive = sign; atom = t }) → Worked setting (record { positive = sign; atom = t }) (with_rules setting sign t s)
  worked-typed true (app (app (constant (equality a)) u) v) s state h = same_rows s state (plus (eq a u v)) _ h (equated-typed setting s.rows (good s state) a true u v s h state.typed)
  worked-typed false (app (app (constant (equality a)) u) v) s state h =
      same_rows s state (minus (eq a u v)) _ h
      (pick_good (IsTypedStateWith setting s.rows) (same_term u v) (with_instance setting.mode (minus (eq a u v) ∷ []) [] s) (with_equation setting a false u v s)
      (with_instance-typed setting s.rows (minus (eq a u v) ∷ []) [] s tt state.typed)
      (equated-typed setting s.rows (good s state) a false u v s h state.typed))
  worked-typed true (app (constant (all a)) f) s state h = same_rows s state (plus (every a f)) _ h (quantified-typed setting s.rows (good s state) a f s h state.typed)
  worked-typed false (app (constant (all a)) f) s state h = denied-typed s state a f h
  worked-typed sign t s state h = connected-typed (record { positive = sign; atom = t }) s state h (connective_rule t sign)

  branch_last : (scope : Scope) (ls : List Literal) (l : Literal) → IsBranch scope ls → IsLiteral scope l → IsBranch scope (ls ++ l ∷ [])
  branch_last scope [] l h k = (k, tt)
  branch_last scope (x ∷ ls) l h k = (h.0, branch_last scope ls l h.1 k)

  -- a state that is typed with a witness table
  pub whole_state : (rows : List Row) (s : State) → IsTable setting.scope rows → IsTypedStateWith setting rows s → IsTypedState setting s
  whole_state rows s t g =
      let P : List Row → Type 0 = λ r. IsTable setting.scope r in
      let Q : List Row → Type 0 = λ r. IsTypedStateWith setting r s in
      record { table = subst P (sym g.are_rows) t; typed = subst Q (sym g.are_rows) g }

  pub processed-typed : (l : Literal) (s : State) → IsTypedState setting s → IsLiteral (scope_in setting s) l → IsTypedState setting (with_processing setting l s)
  processed-typed l s state h =
      let w = worked-typed l.positive l.atom s state h in
      let done = with_rules setting l.positive l.atom s in
      let g = w.typed in
      let noted = record done { noted = done.noted ++ l ∷ [] } in
      whole_state w.rows (with_selections setting.mode (selections_in l.atom) noted) w.table
      (with_selections-typed setting w.rows (selections_in l.atom) noted (selections_in-typed (with_rows setting.scope w.rows) [] formula l.atom w.literal.formula)
      (record { are_rows = g.are_rows; noted = branch_last (with_rows setting.scope w.rows) done.noted l g.noted w.literal; terms = g.terms; parked = g.parked; queue = g.queue }))
