use Rattle.std.proofs.Common.{◌≡◌, ◌∙◌, ap, drop, get_or, arith}
use Rattle.std.specs.List.{prefix_len}
use Rattle.std.proofs.lemmas.Bool.Decides.{nat_tests}
use Rattle.std.proofs.lemmas.List.{take_rest, length-drop, get_or-drop}
use Rattle.thf_grammar.specs.Bytes.{is_word_byte}
use Rattle.thf_grammar.proofs.Words.{dollar_word, lone_dollar}
use Rattle.thf_lex.proofs.piece.dollar_word.Goals as goal

pub returns-in-97-to-122 : goal.returns-in-97-to-122
returns-in-97-to-122 c =
    let bytes = c.args.bytes.now in
    let word : c.word_len.result ≡ prefix_len is_word_byte (drop 1 bytes) = c.word_len.ensures.len ∙ ap (prefix_len is_word_byte) (take_rest bytes 1) in
    let second : get_or (drop 1 bytes) 0 0 ≡ get_or bytes 1 0 = get_or-drop 1 bytes 0 0 in
    rw word (dollar_word bytes c.requires.some c.requires.kind (omega (arith, length-drop 1 bytes)) (rw second (grind (arith, nat_tests))))

pub returns-in_default : goal.returns-in_default
returns-in_default c =
    let bytes = c.args.bytes.now in
    (c.requires.some, lone_dollar bytes c.requires.some c.requires.kind (λ some. absurd (omega (arith, length-drop 1 bytes))))

pub returns-in_default-2 : goal.returns-in_default-2
returns-in_default-2 c =
    let bytes = c.args.bytes.now in
    let second : get_or (drop 1 bytes) 0 0 ≡ get_or bytes 1 0 = get_or-drop 1 bytes 0 0 in
    (c.requires.some, lone_dollar bytes c.requires.some c.requires.kind (λ some. rw second (grind (arith, nat_tests))))

pub returns-in_default-3 : goal.returns-in_default-3
returns-in_default-3 c =
    let bytes = c.args.bytes.now in
    let second : get_or (drop 1 bytes) 0 0 ≡ get_or bytes 1 0 = get_or-drop 1 bytes 0 0 in
    (c.requires.some, lone_dollar bytes c.requires.some c.requires.kind (λ some. rw second (grind (arith, nat_tests))))
