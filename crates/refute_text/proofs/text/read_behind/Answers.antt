use Rattle.std.proofs.Common.{◌≡◌, ◌+◌, ◌-◌, ◌∷◌, ◌++◌, IfErr, sym, ap, subst, ◌∙◌, arith}
use Rattle.refute_print.specs.Text.{text_lines}
use Rattle.outside.specs.Lines.{lines_of}
use Rattle.refute_text.specs.Internal.Places.{RefusesBehind}
use Rattle.refute_text.specs.declared.refusal.TextRefused.TheVariants.{NoEnd}
use Rattle.refute_text.proofs.Bodies.{version_missing, version_bad}
use Rattle.refute_text.proofs.text.read_behind.Goals as goal

pub returns-in_default-clause-refused : goal.returns-in_default-clause-refused
returns-in_default-clause-refused c =
    subst (λ bytes. RefusesBehind (lines_of bytes) c.args.line (NoEnd c.args.line)) (sym c.in_default.ensures.none) (version_missing c.args.line)

pub returns-then-is_same-clause-refused : goal.returns-then-is_same-clause-refused
returns-then-is_same-clause-refused c =
    let rest = lines_of c.in-Some.cut.rest.now in
    let lines = ap (λ t. text_lines t ++ rest) c.version_1.ensures.text ∙ ap (λ x. x ∷ rest) (sym (c.is_same.ensures.0 c.if-is_same.true)) ∙ sym c.in-Some.ensures.line in
    let place : c.version_1.result.names_at - 1 ≡ c.args.line = ap (λ k. k - 1) c.version_1.ensures.place ∙ omega arith in
    subst (λ k. IfErr c.read_on.result (RefusesBehind (lines_of c.args.bytes.now) k)) place
    (subst (λ x. IfErr c.read_on.result (RefusesBehind x (c.version_1.result.names_at - 1))) lines c.read_on.ensures.refused)

pub returns-then-is_same-2-clause-refused : goal.returns-then-is_same-2-clause-refused
returns-then-is_same-2-clause-refused c =
    let rest = lines_of c.in-Some.cut.rest.now in
    let lines = ap (λ x. x ∷ rest) (sym (c.is_same-else-is_same.ensures.0 c.if-is_same-2.true)) ∙ sym c.in-Some.ensures.line in
    let place : (c.args.line + 1) - 1 ≡ c.args.line = omega arith in
    subst (λ k. IfErr c.read_version_2.result (RefusesBehind (lines_of c.args.bytes.now) k)) place
    (subst (λ x. IfErr c.read_version_2.result (RefusesBehind x ((c.args.line + 1) - 1))) lines c.read_version_2.ensures.refused)

pub returns-else-is_same-2-clause-refused : goal.returns-else-is_same-2-clause-refused
returns-else-is_same-2-clause-refused c =
    version_bad c.args.line (lines_of c.args.bytes.now) c.in-Some.cut.line.now (lines_of c.in-Some.cut.rest.now) c.in-Some.ensures.line
    (λ e. cc (c.is_same.ensures.1 e, c.if-is_same.false)) (λ e. cc (c.is_same-else-is_same.ensures.1 e, c.if-is_same-2.false))
