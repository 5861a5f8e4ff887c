use Rattle.std.proofs.Common.{◌≡◌, ◌∙◌, sym, ap, drop, arith}
use Rattle.std.specs.Char.{is_ascii_digit}
use Rattle.std.specs.List.{prefix_len}
use Rattle.std.proofs.lemmas.List.{take_rest}
use Rattle.thf_grammar.proofs.Words.{unsigned_integer, signed_integer, lone_sign}
use Rattle.thf_lex.proofs.piece.integer.Goals as goal

pub returns-then-not-is_sign : goal.returns-then-not-is_sign
returns-then-not-is_sign c =
    rw c.digits_len.ensures.len (unsigned_integer c.args.bytes.now c.requires.some c.requires.kind cc)

pub returns-in-0 : goal.returns-in-0
returns-in-0 c =
    let bytes = c.args.bytes.now in
    let none : prefix_len is_ascii_digit (drop 1 bytes) ≡ 0 = ap (prefix_len is_ascii_digit) (sym (take_rest bytes 1)) ∙ sym c.digits_len-2.ensures.len ∙ c.in-0.is in
    (c.requires.some, lone_sign bytes c.requires.some (cc) c.requires.kind none)

pub returns-in_default : goal.returns-in_default
returns-in_default c =
    let bytes = c.args.bytes.now in
    let digits : c.digits_len-2.result ≡ prefix_len is_ascii_digit (drop 1 bytes) = c.digits_len-2.ensures.len ∙ ap (prefix_len is_ascii_digit) (take_rest bytes 1) in
    rw digits (signed_integer bytes c.requires.some (cc) c.requires.kind (omega arith))
