use Rattle.std.proofs.Common.{◌≡◌, [], ◌∷◌, ◌++◌, map, true, false, ap, ◌∙◌, arith}
use Rattle.std.proofs.lemmas.Bool.Decides.{nat_tests}
use Rattle.thf_grammar.specs.View.{the_statement}
use Rattle.thf_parse.specs.Internal.Outcome.{first_terminal}
use Rattle.thf_parse.specs.Internal.StatementReader.{is_end, file}
use Rattle.thf_parse.proofs.StatementLocals.{statement-shorter}
use Rattle.thf_parse.proofs.FileSteps.{file-refused, file-done, file-onward}
use Rattle.thf_parse.proofs.parser.statements.Goals as goal

pub returns-in-Err : goal.returns-in-Err
returns-in-Err c =
    let open_still : is_end (first_terminal c.statements.cursor) ≡ false = grind (arith, nat_tests) in
    file-refused c.args.room (map the_statement c.statements.file) c.statements.cursor c.args.cursor.now c.statements.invariant c.statement.new.cursor c.in-Err.refusal open_still c.in-Err.ensures

pub statements-smaller : goal.statements-smaller
statements-smaller c = statement-shorter c.args.room c.statements.cursor c.statement.new.cursor (the_statement c.in-Ok.read) c.in-Ok.ensures

pub statements-preserved : goal.statements-preserved
statements-preserved c =
    let open_still : is_end (first_terminal c.statements.cursor) ≡ false = grind (arith, nat_tests) in
    let grown : map the_statement c.in_ok-file.file ≡ map the_statement c.statements.file ++ the_statement c.in-Ok.read ∷ [] = c.in_ok-file.ensures in
    ap (λ ss. file c.args.room ss c.statement.new.cursor) grown
    ∙ file-onward c.args.room (map the_statement c.statements.file) c.statements.cursor c.args.cursor.now c.statements.invariant (the_statement c.in-Ok.read) c.statement.new.cursor open_still c.in-Ok.ensures

pub returns : goal.returns
returns c =
    let ended : is_end (first_terminal c.statements.cursor) ≡ true = grind (arith, nat_tests) in
    file-done c.args.room (map the_statement c.statements.file) c.statements.cursor c.args.cursor.now c.statements.invariant ended
