use Rattle.std.proofs.Common.{[], sym, ap, subst, ◌∙◌}
use Rattle.thf_grammar.specs.View.{the_file}
use Rattle.thf_grammar.specs.Words.{lexemes}
use Rattle.thf_parse.specs.Internal.StatementReader.{file}
use Rattle.thf_parse.specs.Parsing.{depth_limit, IsWrongAt, IsTooDeepAt}
use Rattle.thf_parse.proofs.ParseLaws.{parsed, refused-wrong, refused-deep}
use Rattle.thf_parse.proofs.LexemeLaws.{tokens-ended}
use Rattle.thf_parse.proofs.parser.parse.Goals as goal

pub returns-in-Ok-clause-tree : goal.returns-in-Ok-clause-tree
returns-in-Ok-clause-tree c =
    let all = sym (c.new-cursor.ensures ∙ ap (lexemes c.args.bytes.now) c.as_slice.ensures) in
    parsed depth_limit (lexemes c.args.bytes.now c.args.tokens.now) c.statements.new.cursor (the_file c.in-Ok.file) (tokens-ended c.args.bytes.now c.args.tokens.now c.requires) (ap (file depth_limit []) all ∙ c.in-Ok.ensures)

pub returns-in-Err-Wrong-clause-refused : goal.returns-in-Err-Wrong-clause-refused
returns-in-Err-Wrong-clause-refused c =
    let all = sym (c.new-cursor.ensures ∙ ap (lexemes c.args.bytes.now) c.as_slice.ensures) in
    subst (λ at. IsWrongAt depth_limit (lexemes c.args.bytes.now c.args.tokens.now) at) (sym c.place.ensures)
    (refused-wrong depth_limit (lexemes c.args.bytes.now c.args.tokens.now) c.statements.new.cursor (tokens-ended c.args.bytes.now c.args.tokens.now c.requires) (ap (file depth_limit []) all ∙ (rw c.in-Err-Wrong.field-0-is at c.in-Err-Wrong.ensures)))

pub returns-in-Err-TooDeep-clause-refused : goal.returns-in-Err-TooDeep-clause-refused
returns-in-Err-TooDeep-clause-refused c =
    let all = sym (c.new-cursor.ensures ∙ ap (lexemes c.args.bytes.now) c.as_slice.ensures) in
    subst (λ at. IsTooDeepAt depth_limit (lexemes c.args.bytes.now c.args.tokens.now) at) (sym c.place-in-Err-TooDeep.ensures)
    (refused-deep depth_limit (lexemes c.args.bytes.now c.args.tokens.now) c.statements.new.cursor (tokens-ended c.args.bytes.now c.args.tokens.now c.requires) (ap (file depth_limit []) all ∙ (rw c.in-Err-TooDeep.field-0-is at c.in-Err-TooDeep.ensures)))
