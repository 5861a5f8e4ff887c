use Rattle.std.proofs.Common.{◌∙◌, ◌++◌, ◌∷◌, [], ap, ap₂, sym, subst}
use Rattle.tableau_calculus.specs.Witnesses.{Row, IsTypedRow}
use Rattle.term_bank.specs.Content.{HasTerm}
use Rattle.term_bank.proofs.GrowLaws.{has_within}
use Rattle.refute_check.specs.Internal.Branches.{Grow}
use Rattle.refute_check.specs.Internal.Shared.{declared_in, shared_atoms, the_rows}
use Rattle.refute_check.proofs.SharedLaws.{with_bank, imported_extends, imported_good, extends_declared, extends_rows, extends_atoms, some_of, none_of}
use Rattle.refute_check.proofs.RowLaws.{row_of_place, position_any, found_twice, found_once}
use Rattle.refute_check.proofs.shared.Shared.add_numbered.Goals as goal

pub returns-then-is_some-clause-answer : goal.returns-then-is_some-clause-answer
returns-then-is_some-clause-answer c =
    let s = c.args.self.now in
    let row = c.args.row.now in
    let has = subst (HasTerm c.import.new.self c.in_ok-id.id) (ap (λ (r : Row). r.predicate) c.row.view_is) c.in_ok-id.ensures.term in
    let k = some_of c.find.result (sym c.is_some.ensures ∙ c.if-is_some.true) in (
      c.in_ok-is_row.ensures.0 c.if-not-branch.false,
      found_twice s c.requires.good c.import.new.self c.in_ok-id.ensures.grows c.in_ok-id.id row has k.0 (sym c.find.ensures ∙ k.1),
    )

pub push_row-requires-clause-good : goal.push_row-requires-clause-good
push_row-requires-clause-good c = imported_good c.args.self.now c.import.new.self c.in_ok-id.ensures.grows c.requires.good

pub push_row-requires-clause-within : goal.push_row-requires-clause-within
push_row-requires-clause-within c = has_within c.import.new.self c.in_ok-id.id c.row.inside.predicate c.in_ok-id.ensures.term

pub push_row-requires-clause-typed : goal.push_row-requires-clause-typed
push_row-requires-clause-typed c =
    let s = c.args.self.now in
    let b = c.import.new.self in
    let row = c.args.row.now in
    let new = with_bank s b c.in_ok-id.ensures.grows in
    let e = imported_extends s b c.in_ok-id.ensures.grows in
    let has = subst (HasTerm b c.in_ok-id.id) (ap (λ (r : Row). r.predicate) c.row.view_is) c.in_ok-id.ensures.term in
    let typed = c.in_ok-is_row.ensures.0 c.if-not-branch.false in
    subst (IsTypedRow (declared_in new) (the_rows new)) (ap (λ t. record { type = t; predicate = row.predicate }) c.requires.formed ∙ sym (row_of_place b c.in_ok-id.id row.predicate has))
    (subst (λ rs. IsTypedRow (declared_in new) rs row) (sym (extends_rows s new e c.requires.good))
    (subst (λ x. IsTypedRow x (the_rows s) row) (sym (extends_declared s new e)) typed))

pub push_row-requires-clause-taken : goal.push_row-requires-clause-taken
push_row-requires-clause-taken c =
    let row = c.args.row.now in
    let is = c.row.view_is in
    let has = subst (HasTerm c.import.new.self c.in_ok-id.id) (ap (λ (r : Row). r.predicate) is) c.in_ok-id.ensures.term in
    c.in_ok-try_clone.ensures ∙ ap (λ (r : Row). r.type) is ∙ c.requires.formed ∙ sym (ap (λ (r : Row). r.type) (row_of_place c.import.new.self c.in_ok-id.id row.predicate has))

pub push_row-requires-clause-none : goal.push_row-requires-clause-none
push_row-requires-clause-none c =
    position_any _ c.args.self.now.witnesses (sym c.find.ensures ∙ none_of c.find.result (sym c.is_some.ensures ∙ c.if-is_some.false))

pub returns-clause-answer : goal.returns-clause-answer
returns-clause-answer c =
    let s = c.args.self.now in
    let row = c.args.row.now in
    let has = subst (HasTerm c.import.new.self c.in_ok-id.id) (ap (λ (r : Row). r.predicate) c.row.view_is) c.in_ok-id.ensures.term in (
      c.in_ok-is_row.ensures.0 c.if-not-branch.false,
      found_once s c.requires.good c.import.new.self c.in_ok-id.ensures.grows c.in_ok-id.id row has c.equal_ids_for_equal_terms.ensures (sym c.find.ensures ∙ none_of c.find.result (sym c.is_some.ensures ∙ c.if-is_some.false)),
    )

pub returns-clause-rows : goal.returns-clause-rows
returns-clause-rows c = λ _.
    let s = c.args.self.now in
    let b = c.import.new.self in
    let row = c.args.row.now in
    let has = subst (HasTerm b c.in_ok-id.id) (ap (λ (r : Row). r.predicate) c.row.view_is) c.in_ok-id.ensures.term in
    c.in_ok-push_row.ensures.rows
    ∙ ap₂ (λ rs r. rs ++ r ∷ []) (extends_rows s (with_bank s b c.in_ok-id.ensures.grows) (imported_extends s b c.in_ok-id.ensures.grows) c.requires.good) (row_of_place b c.in_ok-id.id row.predicate has ∙ sym (ap (λ t. record { type = t; predicate = row.predicate }) c.requires.formed))

pub returns-clause-atoms : goal.returns-clause-atoms
returns-clause-atoms c = λ _.
    let s = c.args.self.now in
    let b = c.import.new.self in
    subst (Grow (shared_atoms s)) (sym c.in_ok-push_row.ensures.atoms) (extends_atoms s (with_bank s b c.in_ok-id.ensures.grows) (imported_extends s b c.in_ok-id.ensures.grows) c.requires.good)
