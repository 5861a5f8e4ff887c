use Rattle.std.proofs.Common.{sym, ap, subst, ◌∙◌, rules}
use Rattle.refute_print.specs.Text.{text_lines}
use Rattle.refute_print.specs.TextView.{the_text}
use Rattle.refute_text.specs.Reading.{HasText}
use Rattle.refute_text.proofs.Grows.{name_added, definition_refused}
use Rattle.refute_text.proofs.text.add_definition.Goals as goal

pub returns-in_err-name-clause-refused : goal.returns-in_err-name-clause-refused
returns-in_err-name-clause-refused c =
    let refused = definition_refused c.args.text.now c.args.line.now c.in_err-name.field-0.0 c.requires.has_text c.requires.definition c.in_err-name.ensures in
    search (rules, refused)

pub returns-clause-has_text : goal.returns-clause-has_text
returns-clause-has_text c =
    let added = name_added c.args.text.now c.args.line.now c.in_ok-name.name c.requires.has_text (c.requires.version_2, c.requires.no_rows, c.requires.no_lines) c.in_ok-name.ensures in
    subst (λ names. HasText (the_text (record c.args.text.now { names = names }))) (sym c.in_ok-push.ensures.ok) added.0

pub returns-clause-added : goal.returns-clause-added
returns-clause-added c =
    let added = name_added c.args.text.now c.args.line.now c.in_ok-name.name c.requires.has_text (c.requires.version_2, c.requires.no_rows, c.requires.no_lines) c.in_ok-name.ensures in
    ap (λ names. text_lines (the_text (record c.args.text.now { names = names }))) c.in_ok-push.ensures.ok ∙ added.1
