use Rattle.std.proofs.Common.{◌++◌, [], ◌∷◌, ◌∙◌, refl, map, take, take_all, ap, sym, subst, arith}
use Rattle.std.proofs.lemmas.List.{length-map}
use Rattle.std.proofs.lemmas.Result.{IfOk-from_err}
use Rattle.stt_core.proofs.ListLaws.{take_got, mapped_get}
use Rattle.tableau_calculus.specs.Witnesses.{IsTable}
use Rattle.tableau_calculus.specs.Internal.Answers.{RowAnswer}
use Rattle.tableau_calculus.proofs.FailureLaws.{row_refused, table-more}
use Rattle.refute_print.specs.TextView.{the_text}
use Rattle.refute_check.specs.Numbered.{numbered_row, numbered_refutation}
use Rattle.refute_check.specs.Internal.Shared.{declared_in, shared_atoms}
use Rattle.refute_check.proofs.BranchLaws.{grow-itself, grow-more}
use Rattle.refute_check.proofs.check.check_rows.Goals as goal

pub loop-i-init : goal.loop-i-init
loop-i-init c = (c.requires.good, c.requires.none, tt, grow-itself (shared_atoms c.args.shared.now), refl)

pub add_row-requires : goal.add_row-requires
add_row-requires c = record { good = c.loop-i.invariant.0 }

pub returns-in-Some-clause-refused : goal.returns-in-Some-clause-refused
returns-in-Some-clause-refused c = λ start.
    let scope = declared_in c.args.shared.now in
    let names = c.args.numbering.now in
    let rows = map (numbered_row names) c.args.text.now.witnesses in
    let i = c.loop-i.i in
    let row = numbered_row names c.at.result.now in
    let at = mapped_get (numbered_row names) c.args.text.now.witnesses i c.at.result.now c.at.ensures in
    let answer = subst (λ s. RowAnswer s (take i rows) row c.in_ok-why.field-0) c.loop-i.invariant.4 (subst (λ rs. RowAnswer (declared_in c.loop-i.shared) rs row c.in_ok-why.field-0) c.loop-i.invariant.1 c.in_ok-why.ensures.answer) in
    row_refused scope start (numbered_refutation names (the_text c.args.text.now)) i row c.in-Some.why at c.loop-i.invariant.2
    (subst (RowAnswer scope (take i rows) row) c.in-Some.is answer)

pub loop-i-preserved : goal.loop-i-preserved
loop-i-preserved c =
    let scope = declared_in c.args.shared.now in
    let names = c.args.numbering.now in
    let rows = map (numbered_row names) c.args.text.now.witnesses in
    let i = c.loop-i.i in
    let row = numbered_row names c.at.result.now in
    let at = mapped_get (numbered_row names) c.args.text.now.witnesses i c.at.result.now c.at.ensures in
    let answer = subst (λ s. RowAnswer s (take i rows) row c.in_ok-why.field-0) c.loop-i.invariant.4 (subst (λ rs. RowAnswer (declared_in c.loop-i.shared) rs row c.in_ok-why.field-0) c.loop-i.invariant.1 c.in_ok-why.ensures.answer) in
    let right = subst (RowAnswer scope (take i rows) row) c.in_default.is answer in (
      c.in_ok-why.ensures.good c.in_default.is,
      c.in_ok-why.ensures.rows c.in_default.is ∙ ap (λ rs. rs ++ row ∷ []) c.loop-i.invariant.1 ∙ sym (take_got rows i row at),
      table-more scope rows i row at c.loop-i.invariant.2 right.0 right.1,
      grow-more (shared_atoms c.args.shared.now) (shared_atoms c.loop-i.shared) (shared_atoms c.add_row.new.self) c.loop-i.invariant.3 (c.in_ok-why.ensures.atoms c.in_default.is),
      c.in_ok-why.ensures.declared c.in_default.is ∙ c.loop-i.invariant.4,
    )

pub returns-in_err-why-clause-rows : goal.returns-in_err-why-clause-rows
returns-in_err-why-clause-rows c = IfOk-from_err _ _ c.from_residual.ensures.0

pub returns-in_err-why-clause-table : goal.returns-in_err-why-clause-table
returns-in_err-why-clause-table c = IfOk-from_err _ _ c.from_residual.ensures.0

pub returns-in_err-why-clause-atoms : goal.returns-in_err-why-clause-atoms
returns-in_err-why-clause-atoms c = IfOk-from_err _ _ c.from_residual.ensures.0

pub returns-in_err-why-clause-declared : goal.returns-in_err-why-clause-declared
returns-in_err-why-clause-declared c = IfOk-from_err _ _ c.from_residual.ensures.0

pub returns-in_err-why-clause-good : goal.returns-in_err-why-clause-good
returns-in_err-why-clause-good c = IfOk-from_err _ _ c.from_residual.ensures.0

pub returns-in-Some-clause-rows : goal.returns-in-Some-clause-rows
returns-in-Some-clause-rows c = tt

pub returns-in-Some-clause-table : goal.returns-in-Some-clause-table
returns-in-Some-clause-table c = tt

pub returns-in-Some-clause-atoms : goal.returns-in-Some-clause-atoms
returns-in-Some-clause-atoms c = tt

pub returns-in-Some-clause-declared : goal.returns-in-Some-clause-declared
returns-in-Some-clause-declared c = tt

pub returns-in-Some-clause-good : goal.returns-in-Some-clause-good
returns-in-Some-clause-good c = tt

pub returns-clause-rows : goal.returns-clause-rows
returns-clause-rows c =
    let rows = map (numbered_row c.args.numbering.now) c.args.text.now.witnesses in
    let whole = take_all c.loop-i.i rows (omega (arith, c.len-i-end.ensures, length-map c.args.text.now.witnesses (numbered_row c.args.numbering.now))) in
    c.loop-i.invariant.1 ∙ whole

pub returns-clause-table : goal.returns-clause-table
returns-clause-table c =
    let rows = map (numbered_row c.args.numbering.now) c.args.text.now.witnesses in
    let whole = take_all c.loop-i.i rows (omega (arith, c.len-i-end.ensures, length-map c.args.text.now.witnesses (numbered_row c.args.numbering.now))) in
    subst (IsTable (declared_in c.args.shared.now)) whole c.loop-i.invariant.2

pub returns-clause-atoms : goal.returns-clause-atoms
returns-clause-atoms c = c.loop-i.invariant.3

pub returns-clause-declared : goal.returns-clause-declared
returns-clause-declared c = c.loop-i.invariant.4

pub returns-clause-good : goal.returns-clause-good
returns-clause-good c = c.loop-i.invariant.0

pub returns-clause-row : goal.returns-clause-row
returns-clause-row c = tt

pub returns-clause-refused : goal.returns-clause-refused
returns-clause-refused c = tt
