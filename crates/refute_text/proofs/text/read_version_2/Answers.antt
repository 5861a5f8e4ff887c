use Rattle.std.proofs.Common.{◌-◌, ◌∷◌, ◌++◌, IfOk, IfErr, codes, sym, ap, subst, ◌∙◌}
use Rattle.refute_print.specs.TextView.{the_text}
use Rattle.outside.specs.Lines.{lines_of}
use Rattle.refute_text.specs.Reading.{HoldsText}
use Rattle.refute_text.specs.Internal.Places.{RefusesBehind}
use Rattle.refute_text.specs.declared.refusal.TextRefused.TheVariants.{NoEnd}
use Rattle.refute_text.proofs.Bodies.{definitions_missing, definition_bad, version_2_begins, no_definition}
use Rattle.refute_text.proofs.text.read_version_2.Goals as goal

pub returns-in_default-clause-refused : goal.returns-in_default-clause-refused
returns-in_default-clause-refused c =
    subst (λ bytes. RefusesBehind (codes "version 2" ∷ lines_of bytes) (c.args.line - 1) (NoEnd c.args.line)) (sym c.in_default.ensures.none) (definitions_missing c.args.line c.requires.counted)

pub read_on-requires-clause-has_text : goal.read_on-requires-clause-has_text
read_on-requires-clause-has_text c = (version_2_begins (the_text c.in-Ok.text) c.in-Some.cut.line.now c.in-Ok.ensures.text).0

pub returns-in-Ok-clause-held : goal.returns-in-Ok-clause-held
returns-in-Ok-clause-held c =
    let begins = version_2_begins (the_text c.in-Ok.text) c.in-Some.cut.line.now c.in-Ok.ensures.text in
    let lines = ap (λ x. x ++ lines_of c.in-Some.cut.rest.now) begins.1 ∙ ap (λ x. codes "version 2" ∷ x) (sym c.in-Some.ensures.line) in
    subst (λ x. IfOk c.read_on.result (λ t. HoldsText x (the_text t))) lines c.read_on.ensures.held

pub returns-in-Ok-clause-refused : goal.returns-in-Ok-clause-refused
returns-in-Ok-clause-refused c =
    let begins = version_2_begins (the_text c.in-Ok.text) c.in-Some.cut.line.now c.in-Ok.ensures.text in
    let lines = ap (λ x. x ++ lines_of c.in-Some.cut.rest.now) begins.1 ∙ ap (λ x. codes "version 2" ∷ x) (sym c.in-Some.ensures.line) in
    subst (λ k. IfErr c.read_on.result (RefusesBehind (codes "version 2" ∷ lines_of c.args.bytes.now) (k - 1))) c.in-Ok.ensures.place
    (subst (λ x. IfErr c.read_on.result (RefusesBehind x (c.in-Ok.text.names_at - 1))) lines c.read_on.ensures.refused)

pub returns-in-Err-Form-clause-refused : goal.returns-in-Err-Form-clause-refused
returns-in-Err-Form-clause-refused c =
    definition_bad c.args.line (lines_of c.args.bytes.now) c.in-Some.cut.line.now (lines_of c.in-Some.cut.rest.now) c.requires.counted c.in-Some.ensures.line (no_definition c.in-Some.cut.line.now (rw c.in-Err-Form.field-0-is at c.in-Err-Form.ensures.text))
