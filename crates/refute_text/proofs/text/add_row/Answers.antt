use Rattle.std.proofs.Common.{sym, ap, subst, ◌∙◌, rules}
use Rattle.refute_print.specs.Text.{text_lines}
use Rattle.refute_print.specs.TextView.{the_text}
use Rattle.refute_text.specs.Internal.LineReader.{row_at}
use Rattle.refute_text.specs.Reading.{HasText}
use Rattle.refute_text.specs.Internal.Refusals.{IsReaderRefusal}
use Rattle.refute_text.proofs.Grows.{row_added, row_refused}
use Rattle.refute_text.proofs.text.add_row.Goals as goal

pub returns-in_err-row-clause-refused : goal.returns-in_err-row-clause-refused
returns-in_err-row-clause-refused c =
    let refused = row_refused c.args.text.now c.args.line.now c.in_err-row.field-0.0 c.requires.has_text c.requires.row (subst (λ n. IsReaderRefusal c.in_err-row.field-0.0 (row_at n c.args.line.now)) c.len.ensures c.in_err-row.ensures) in
    search (rules, refused)

pub returns-clause-has_text : goal.returns-clause-has_text
returns-clause-has_text c =
    let added = row_added c.args.text.now c.args.line.now c.in_ok-row.row c.requires.has_text c.requires.no_lines (ap (λ n. row_at n c.args.line.now) (sym c.len.ensures) ∙ c.in_ok-row.ensures) in
    subst (λ rows. HasText (the_text (record c.args.text.now { witnesses = rows }))) (sym c.in_ok-push.ensures.ok) added.0

pub returns-clause-added : goal.returns-clause-added
returns-clause-added c =
    let added = row_added c.args.text.now c.args.line.now c.in_ok-row.row c.requires.has_text c.requires.no_lines (ap (λ n. row_at n c.args.line.now) (sym c.len.ensures) ∙ c.in_ok-row.ensures) in
    ap (λ rows. text_lines (the_text (record c.args.text.now { witnesses = rows }))) c.in_ok-push.ensures.ok ∙ added.1
