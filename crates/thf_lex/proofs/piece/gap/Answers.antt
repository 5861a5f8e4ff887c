use Rattle.std.proofs.Common.{arith}
use Rattle.thf_grammar.proofs.Gaps.{white_space, line_comment, block_comment, lone_slash, odd_byte}
use Rattle.thf_lex.proofs.piece.gap.Goals as goal

pub returns-in-37 : goal.returns-in-37
returns-in-37 c = rw c.line_len.ensures.len (line_comment c.args.bytes.now c.requires.some (cc))

pub returns-in-Some : goal.returns-in-Some
returns-in-Some c = block_comment c.args.bytes.now _ c.in-Some.ensures.within c.in-Some.ensures.comment

pub returns-in-None : goal.returns-in-None
returns-in-None c = (c.requires.some, lone_slash c.args.bytes.now (cc) c.in-None.ensures.none)

pub returns-in_default : goal.returns-in_default
returns-in_default c = rw c.white_space_len.ensures.len (white_space c.args.bytes.now c.requires.some (cc))

pub returns-in_default-2 : goal.returns-in_default-2
returns-in_default-2 c =
    (c.requires.some, odd_byte c.args.bytes.now c.requires.kind (λ e. omega arith) (λ e. omega arith) (cc))
