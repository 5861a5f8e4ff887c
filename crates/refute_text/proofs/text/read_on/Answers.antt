use Rattle.std.proofs.Common.{◌<◌, ◌^◌, ◌++◌, sym, ◌∙◌, arith}
use Rattle.refute_print.specs.Text.{text_lines}
use Rattle.refute_print.specs.TextView.{the_text}
use Rattle.outside.specs.Lines.{lines_of}
use Rattle.refute_text.proofs.Bodies.{text_bad, text_first}
use Rattle.refute_text.proofs.text.read_on.Goals as goal

pub returns-then-is_end-clause-room : goal.returns-then-is_end-clause-room
returns-then-is_end-clause-room c =
    let lines = text_lines (the_text c.args.begun) ++ lines_of c.args.bytes.now in
    let below : c.loop-cut.line < 2 ^ 64 = omega arith in
    omega (arith, below, text_first lines c.args.begun.names_at c.loop-cut.text c.loop-cut.line c.loop-cut.rest.now c.loop-cut.invariant.so_far)

pub returns-in-Err-Form-clause-refused : goal.returns-in-Err-Form-clause-refused
returns-in-Err-Form-clause-refused c =
    let lines = text_lines (the_text c.args.begun) ++ lines_of c.args.bytes.now in
    text_bad lines c.args.begun.names_at c.loop-cut.text c.loop-cut.line c.loop-cut.rest.now c.in-Some.cut.line.now c.in-Some.cut.rest.now c.requires.behind c.loop-cut.invariant.so_far c.in-Some.ensures.line (sym c.is_end.ensures ∙ c.if-is_end.false) (rw c.in-Err-Form.field-0-is at c.in-Err-Form.ensures.refused)
