use Rattle.thf_grammar.proofs.Words.{letter_word}
use Rattle.thf_lex.proofs.piece.word.Goals as goal

pub returns : goal.returns
returns c = rw c.word_len.ensures.len (letter_word c.args.kind c.args.bytes.now c.requires.some c.requires.kind c.requires.letters)
