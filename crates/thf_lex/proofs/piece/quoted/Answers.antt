use Rattle.std.proofs.Common.{◌≡◌, ◌∙◌, ap}
use Rattle.thf_grammar.specs.Internal.Kind.{kind_of}
use Rattle.thf_grammar.proofs.Pieces.{longest_token, no_token, first_kind}
use Rattle.thf_grammar.proofs.Quotes.{quoted_token, quote_kind}
use Rattle.thf_lex.proofs.piece.quoted.Goals as goal

pub quoted_len-requires-clause-apart : goal.quoted_len-requires-clause-apart
quoted_len-requires-clause-apart c = (quote_kind c.args.kind c.args.quote c.requires.kind).2

pub returns-in-Some : goal.returns-in-Some
returns-in-Some c =
    let same = quoted_token c.args.kind c.args.quote in
    longest_token c.args.kind c.args.bytes.now c.in-Some.len c.in-Some.ensures.within ((same _ c.requires.kind).0 c.in-Some.ensures.quoted)
    (λ m short h. c.in-Some.ensures.longest m short ((same _ c.requires.kind).1 h))

pub returns-in-None : goal.returns-in-None
returns-in-None c =
    let bytes = c.args.bytes.now in
    let mark = quote_kind c.args.kind c.args.quote c.requires.kind in
    let first : first_kind bytes ≡ c.args.kind = ap kind_of c.requires.opened ∙ mark.0 in
    (c.requires.some, no_token c.args.kind bytes first mark.1 (λ m h. c.in-None.ensures.none m ((quoted_token c.args.kind c.args.quote _ c.requires.kind).1 h)))
