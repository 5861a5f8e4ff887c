use Rattle.std.proofs.Common.{◌≡◌, ◌<◌, length, true, false, ap, ◌∙◌, arith}
use Rattle.std.proofs.lemmas.Bool.Decides.{nat_tests}
use Rattle.thf_grammar.specs.declared.terminal.Mark.TheVariants.{Comma}
use Rattle.thf_parse.specs.Internal.Outcome.{first_terminal, lexemes_behind}
use Rattle.thf_grammar.specs.Internal.Marks.{is_mark}
use Rattle.thf_parse.specs.Internal.NoteReader.{passed, all_commas, general, inner_notes}
use Rattle.thf_parse.proofs.NoteSteps.{generals-refused, generals-ended, generals-more, generals-shorter}
use Rattle.thf_parse.proofs.notes.+notes.Goals as goal

pub generals-returns-in-Err : goal.generals-returns-in-Err
generals-returns-in-Err t c = generals-refused c.args.room c.items.cursor c.args.cursor.now c.general.new.cursor c.in-Err.refusal c.items.invariant c.in-Err.ensures

pub generals-returns-then-not-is_mark : goal.generals-returns-then-not-is_mark
generals-returns-then-not-is_mark t c =
    let none : is_mark Comma (first_terminal c.general.new.cursor) ≡ false = grind (arith, nat_tests) in
    generals-ended c.args.room c.items.cursor c.args.cursor.now c.general.new.cursor c.items.invariant c.in-Ok.ensures none

pub generals-items-smaller : goal.generals-items-smaller
generals-items-smaller t c =
    let some : is_mark Comma (first_terminal c.general.new.cursor) ≡ true = grind (arith, nat_tests) in
    let shorter : length (lexemes_behind c.general.new.cursor) < length c.items.cursor = generals-shorter c.args.room c.items.cursor c.args.cursor.now c.general.new.cursor c.in-Ok.ensures some in
    omega (arith, shorter, ap length c.advance.ensures)

pub generals-items-preserved : goal.generals-items-preserved
generals-items-preserved t c =
    let some : is_mark Comma (first_terminal c.general.new.cursor) ≡ true = grind (arith, nat_tests) in
    ap (λ us. all_commas (λ _. general (inner_notes c.args.room)) passed us) c.advance.ensures
    ∙ generals-more c.args.room c.items.cursor c.args.cursor.now c.general.new.cursor c.items.invariant c.in-Ok.ensures some
