use Rattle.std.proofs.Common.{◌<◌, arith}
use Rattle.thf_grammar.specs.declared.token.TokenKind.TheVariants.{Symbol}
use Rattle.thf_grammar.proofs.Pieces.{longest_token, no_token}
use Rattle.thf_lex.proofs.Symbols.{no_symbol}
use Rattle.thf_lex.proofs.piece.symbol.Goals as goal

pub returns-in-0 : goal.returns-in-0
returns-in-0 c =
    let bytes = c.args.bytes.now in
    (c.requires.some, no_token Symbol bytes c.requires.kind (λ e. cc) (no_symbol bytes (λ m short h. omega (arith, c.symbol_len.ensures.longest m short h))))

pub returns-in_default : goal.returns-in_default
returns-in_default c =
    let some : 0 < c.symbol_len.result = omega arith in
    longest_token Symbol c.args.bytes.now c.symbol_len.result c.symbol_len.ensures.within (c.symbol_len.ensures.symbol some) c.symbol_len.ensures.longest
