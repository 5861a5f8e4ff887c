use Rattle.std.proofs.Common.{sym, ap, subst, ◌∙◌, rules}
use Rattle.refute_print.specs.Text.{text_lines}
use Rattle.refute_print.specs.TextView.{the_text}
use Rattle.refute_text.specs.Internal.LineReader.{line_at}
use Rattle.refute_text.specs.Reading.{HasText}
use Rattle.refute_text.specs.Internal.Refusals.{IsReaderRefusal}
use Rattle.refute_text.proofs.Grows.{line_added, line_refused}
use Rattle.refute_text.proofs.text.add_numbered.Goals as goal

pub returns-in_err-numbered-clause-refused : goal.returns-in_err-numbered-clause-refused
returns-in_err-numbered-clause-refused c =
    let refused = line_refused c.args.text.now c.args.line.now c.in_err-numbered.field-0.0 c.requires.has_text c.requires.no_definition c.requires.no_row (subst (λ n. IsReaderRefusal c.in_err-numbered.field-0.0 (line_at n c.args.line.now)) c.len.ensures c.in_err-numbered.ensures) in
    search (rules, refused)

pub returns-clause-has_text : goal.returns-clause-has_text
returns-clause-has_text c =
    let added = line_added c.args.text.now c.args.line.now c.in_ok-numbered.numbered c.requires.has_text (ap (λ n. line_at n c.args.line.now) (sym c.len.ensures) ∙ c.in_ok-numbered.ensures) in
    subst (λ lines. HasText (the_text (record c.args.text.now { lines = lines }))) (sym c.in_ok-push.ensures.ok) added.0

pub returns-clause-added : goal.returns-clause-added
returns-clause-added c =
    let added = line_added c.args.text.now c.args.line.now c.in_ok-numbered.numbered c.requires.has_text (ap (λ n. line_at n c.args.line.now) (sym c.len.ensures) ∙ c.in_ok-numbered.ensures) in
    ap (λ lines. text_lines (the_text (record c.args.text.now { lines = lines }))) c.in_ok-push.ensures.ok ∙ added.1
