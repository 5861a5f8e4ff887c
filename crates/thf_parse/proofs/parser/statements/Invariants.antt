use Rattle.std.proofs.Common.{◌≡◌, [], map, length}
use Rattle.thf_grammar.specs.View.{the_statement}
use Rattle.thf_parse.specs.Internal.StatementReader.{file}
use Rattle.thf_parse.proofs.parser.statements.Given as goal

-- what is left is read as all is
abbrev pub invariant-statements : goal.invariant-statements
invariant-statements l = file l.room (map the_statement l.file) l.cursor ≡ file l.room [] l.fn.cursor

abbrev pub decreases-statements : goal.decreases-statements
decreases-statements l = length l.cursor
