use Rattle.std.proofs.Common.{◌≡◌, ◌<◌, [], ◌∷◌, ◌++◌, map, length, true, false, sym, ap, ◌∙◌, arith}
use Rattle.std.proofs.lemmas.Bool.Decides.{nat_tests}
use Rattle.thf_grammar.specs.View.{the_selected}
use Rattle.thf_grammar.specs.declared.terminal.Mark.TheVariants.{Comma}
use Rattle.thf_parse.specs.Internal.Outcome.{found, first_terminal, lexemes_behind}
use Rattle.thf_grammar.specs.Internal.Marks.{is_mark}
use Rattle.thf_parse.specs.Internal.NoteReader.{all_commas}
use Rattle.thf_parse.specs.Internal.StatementReader.{more_label}
use Rattle.thf_parse.proofs.LabelSteps.{labels-refused, labels-ended, labels-more, labels-shorter}
use Rattle.thf_parse.proofs.include.labels.Goals as goal

pub returns-in-Err : goal.returns-in-Err
returns-in-Err c = labels-refused (map the_selected c.labels.labels) c.labels.cursor c.args.cursor.now c.labels.invariant c.label.new.cursor c.in-Err.refusal c.in-Err.ensures

pub returns-then-not-is_mark : goal.returns-then-not-is_mark
returns-then-not-is_mark c =
    let none : is_mark Comma (first_terminal c.label.new.cursor) ≡ false = grind (arith, nat_tests) in
    let grown : map the_selected c.in_ok-labels.labels ≡ map the_selected c.labels.labels ++ the_selected c.in-Ok.read ∷ [] = c.in_ok-labels.ensures in
    labels-ended (map the_selected c.labels.labels) c.labels.cursor c.args.cursor.now c.labels.invariant (the_selected c.in-Ok.read) c.label.new.cursor c.in-Ok.ensures none
    ∙ ap (λ ns. found ns c.label.new.cursor) (sym grown)

pub labels-smaller : goal.labels-smaller
labels-smaller c =
    let some : is_mark Comma (first_terminal c.label.new.cursor) ≡ true = grind (arith, nat_tests) in
    let shorter : length (lexemes_behind c.label.new.cursor) < length c.labels.cursor = labels-shorter c.labels.cursor c.label.new.cursor (the_selected c.in-Ok.read) c.in-Ok.ensures some in
    omega (arith, shorter, ap length c.advance.ensures)

pub labels-preserved : goal.labels-preserved
labels-preserved c =
    let some : is_mark Comma (first_terminal c.label.new.cursor) ≡ true = grind (arith, nat_tests) in
    let grown : map the_selected c.in_ok-labels.labels ≡ map the_selected c.labels.labels ++ the_selected c.in-Ok.read ∷ [] = c.in_ok-labels.ensures in
    ap (λ us. all_commas more_label (map the_selected c.in_ok-labels.labels) us) c.advance.ensures
    ∙ ap (λ ns. all_commas more_label ns (lexemes_behind c.label.new.cursor)) grown
    ∙ labels-more (map the_selected c.labels.labels) c.labels.cursor c.args.cursor.now c.labels.invariant (the_selected c.in-Ok.read) c.label.new.cursor c.in-Ok.ensures some
