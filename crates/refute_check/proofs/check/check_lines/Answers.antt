use Rattle.std.proofs.Common.{◌≡◌, ◌∙◌, false, refl, map, take, take_all, sym, subst, arith}
use Rattle.std.proofs.lemmas.List.{length-map}
use Rattle.std.proofs.lemmas.List.Elements.{All-nil}
use Rattle.std.proofs.lemmas.Result.{IfOk-from_err}
use Rattle.stt_core.proofs.ListLaws.{take_got, mapped_get}
use Rattle.tableau_calculus.specs.Witnesses.{with_rows}
use Rattle.tableau_calculus.specs.Accepted.{AreRightLines}
use Rattle.tableau_calculus.specs.CutFree.{is_cut_use, HasNoCut}
use Rattle.tableau_calculus.specs.declared.refutation.Line.{Line}
use Rattle.tableau_calculus.proofs.FailureLaws.{lines-more}
use Rattle.refute_print.specs.TextView.{the_line, the_text}
use Rattle.refute_check.specs.Numbered.{numbered_row, numbered_line, numbered_refutation}
use Rattle.refute_check.specs.Internal.Branches.{AreBranches}
use Rattle.refute_check.specs.Internal.Shared.{declared_in, shared_atoms}
use Rattle.refute_check.proofs.BranchLaws.{grow-itself, grow-more}
use Rattle.refute_check.proofs.SharedLaws.{extends_declared, extends_rows, extends_atoms}
use Rattle.refute_check.proofs.CheckLaws.{answer_over}
use Rattle.refute_check.proofs.StrictLaws.{AnswerBy, answer_by, right_by, none_found, no_cut-more, line_by}
use Rattle.refute_check.proofs.check.check_lines.Goals as goal

pub loop-i-init : goal.loop-i-init
loop-i-init c =
    let s = c.args.shared.now in
    (c.requires.good, c.requires.rows, refl, grow-itself (shared_atoms s), c.new-lines.ensures (shared_atoms s), tt, c.new-seen.ensures c.args.numbering.now s, λ e. All-nil (λ (l : Line). is_cut_use l.rule ≡ false))

pub add-requires : goal.add-requires
add-requires c = record { good = c.loop-i.invariant.0; seen = c.loop-i.invariant.6 }

pub returns-in-Some-clause-refused : goal.returns-in-Some-clause-refused
returns-in-Some-clause-refused c = λ start.
    let scope = declared_in c.args.shared.now in
    let names = c.args.numbering.now in
    let text = c.args.text.now in
    let rows = map (numbered_row names) text.witnesses in
    let lines = map (numbered_line names) (map the_line text.lines) in
    let i = c.loop-i.i in
    let line = numbered_line names (the_line c.at-line.result.now) in
    let at = mapped_get (numbered_line names) (map the_line text.lines) i (the_line c.at-line.result.now) (mapped_get the_line text.lines i c.at-line.result.now c.at-line.ensures) in
    let plain = answer_over c.loop-i.shared c.loop-i.invariant.0 scope c.loop-i.invariant.2 rows c.loop-i.invariant.1 (take i lines) line c.in_ok-found.found (c.in_ok-found.ensures.answer (take i lines) c.loop-i.invariant.4) in
    let answer = answer_by (with_rows scope rows) rows (take i lines) line c.args.strict c.is_cut.result (sym (c.is_cut.ensures names)) c.in_ok-found.found plain in
    line_by scope start (numbered_refutation names (the_text text)) c.args.strict c.len-rows.result i line c.in-Some.why (c.len-rows.ensures ∙ sym (length-map text.witnesses (numbered_row names))) at c.requires.table c.loop-i.invariant.5 c.loop-i.invariant.7
    (subst (AnswerBy (with_rows scope rows) rows (take i lines) line c.args.strict) (sym c.with_cut.ensures ∙ c.in-Some.is) answer)

pub loop-i-preserved : goal.loop-i-preserved
loop-i-preserved c =
    let old = c.args.shared.now in
    let now = c.loop-i.shared in
    let new = c.add.new.shared in
    let scope = declared_in old in
    let names = c.args.numbering.now in
    let text = c.args.text.now in
    let rows = map (numbered_row names) text.witnesses in
    let lines = map (numbered_line names) (map the_line text.lines) in
    let i = c.loop-i.i in
    let line = numbered_line names (the_line c.at-line.result.now) in
    let at = mapped_get (numbered_line names) (map the_line text.lines) i (the_line c.at-line.result.now) (mapped_get the_line text.lines i c.at-line.result.now c.at-line.ensures) in
    let plain = answer_over now c.loop-i.invariant.0 scope c.loop-i.invariant.2 rows c.loop-i.invariant.1 (take i lines) line c.in_ok-found.found (c.in_ok-found.ensures.answer (take i lines) c.loop-i.invariant.4) in
    let answer = answer_by (with_rows scope rows) rows (take i lines) line c.args.strict c.is_cut.result (sym (c.is_cut.ensures names)) c.in_ok-found.found plain in
    let is = sym c.with_cut.ensures ∙ c.in_default.is in
    let right = right_by (with_rows scope rows) rows (take i lines) line c.args.strict (subst (AnswerBy (with_rows scope rows) rows (take i lines) line c.args.strict) is answer) in
    let none = none_found c.args.strict c.is_cut.result c.in_ok-found.found is in
    let e = c.in_ok-found.ensures.extends none in (
      c.in_ok-found.ensures.good none,
      extends_rows now new e c.loop-i.invariant.0 ∙ c.loop-i.invariant.1,
      extends_declared now new e ∙ c.loop-i.invariant.2,
      grow-more (shared_atoms old) (shared_atoms now) (shared_atoms new) c.loop-i.invariant.3 (extends_atoms now new e c.loop-i.invariant.0),
      subst (λ ls. AreBranches (shared_atoms new) ls c.add.new.self.branches.items) (sym (take_got lines i line at)) (c.in_ok-found.ensures.added none (take i lines) c.loop-i.invariant.4),
      lines-more (with_rows scope rows) rows lines i line at c.loop-i.invariant.5 right.0,
      c.in_ok-found.ensures.seen none,
      no_cut-more c.args.strict lines i line at c.loop-i.invariant.7 right.1,
    )

pub returns-in_err-found-clause-right : goal.returns-in_err-found-clause-right
returns-in_err-found-clause-right c = IfOk-from_err _ _ c.from_residual.ensures.0

pub returns-in_err-found-clause-no_cut : goal.returns-in_err-found-clause-no_cut
returns-in_err-found-clause-no_cut c = IfOk-from_err _ _ c.from_residual.ensures.0

pub returns-in_err-found-clause-branches : goal.returns-in_err-found-clause-branches
returns-in_err-found-clause-branches c = IfOk-from_err _ _ c.from_residual.ensures.0

pub returns-in_err-found-clause-atoms : goal.returns-in_err-found-clause-atoms
returns-in_err-found-clause-atoms c = IfOk-from_err _ _ c.from_residual.ensures.0

pub returns-in-Some-clause-right : goal.returns-in-Some-clause-right
returns-in-Some-clause-right c = tt

pub returns-in-Some-clause-no_cut : goal.returns-in-Some-clause-no_cut
returns-in-Some-clause-no_cut c = tt

pub returns-in-Some-clause-branches : goal.returns-in-Some-clause-branches
returns-in-Some-clause-branches c = tt

pub returns-in-Some-clause-atoms : goal.returns-in-Some-clause-atoms
returns-in-Some-clause-atoms c = tt

pub returns-clause-right : goal.returns-clause-right
returns-clause-right c =
    let lines = map (numbered_line c.args.numbering.now) (map the_line c.args.text.now.lines) in
    let whole = take_all c.loop-i.i lines (omega (arith, c.len-i-end.ensures, length-map c.args.text.now.lines the_line, length-map (map the_line c.args.text.now.lines) (numbered_line c.args.numbering.now))) in
    subst (AreRightLines (declared_in c.args.shared.now) (map (numbered_row c.args.numbering.now) c.args.text.now.witnesses)) whole c.loop-i.invariant.5

pub returns-clause-no_cut : goal.returns-clause-no_cut
returns-clause-no_cut c =
    let lines = map (numbered_line c.args.numbering.now) (map the_line c.args.text.now.lines) in
    let whole = take_all c.loop-i.i lines (omega (arith, c.len-i-end.ensures, length-map c.args.text.now.lines the_line, length-map (map the_line c.args.text.now.lines) (numbered_line c.args.numbering.now))) in
    λ e. subst HasNoCut whole (c.loop-i.invariant.7 e)

pub returns-clause-branches : goal.returns-clause-branches
returns-clause-branches c =
    let lines = map (numbered_line c.args.numbering.now) (map the_line c.args.text.now.lines) in
    let whole = take_all c.loop-i.i lines (omega (arith, c.len-i-end.ensures, length-map c.args.text.now.lines the_line, length-map (map the_line c.args.text.now.lines) (numbered_line c.args.numbering.now))) in
    subst (λ ls. AreBranches (shared_atoms c.loop-i.shared) ls c.loop-i.lines.branches.items) whole c.loop-i.invariant.4

pub returns-clause-atoms : goal.returns-clause-atoms
returns-clause-atoms c = c.loop-i.invariant.3

pub returns-clause-refused : goal.returns-clause-refused
returns-clause-refused c = tt
