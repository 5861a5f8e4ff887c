-- Words with which something may end: a token of each kind, at a depth.
use Rattle.std.proofs.Common.{ℕ, List, [], true, codes, refl}
use Rattle.thf_grammar.specs.declared.token.TokenKind.{TokenKind}
use Rattle.thf_grammar.specs.declared.token.TokenKind.TheVariants as kind
use Rattle.thf_grammar.specs.declared.terminal.Mark.{Mark}
use Rattle.thf_grammar.specs.declared.terminal.Mark.TheVariants as mark
use Rattle.thf_grammar.specs.declared.terminal.Terminal.TheVariants as terminal
use Rattle.thf_grammar.specs.Words.{Word, terminal_of, Is}
use Rattle.thf_parse.proofs.Finds.{word}

abbrev some_token : TokenKind → List ℕ → ℕ → Word
some_token kind text depth = word (record { kind = kind; text = text; at = 0 }) depth

abbrev mark_text : Mark → List ℕ
mark_text mark.Open = codes "("
mark_text mark.Close = codes ")"
mark_text mark.OpenList = codes "["
mark_text mark.CloseList = codes "]"
mark_text mark.Comma = codes ","
mark_text mark.Stop = codes "."
mark_text mark.Colon = codes ":"
mark_text mark.Arrow = codes ">"
mark_text mark.At = codes "@"

abbrev pub mark_word : Mark → ℕ → Word
mark_word m depth = some_token kind.Symbol (mark_text m) depth

pub mark-is : (m : Mark) (depth : ℕ) → Is (terminal.Mark m) depth (mark_word m depth)
unfolding terminal_of
mark-is mark.Open depth = record { terminal = refl; deep = refl }
mark-is mark.Close depth = record { terminal = refl; deep = refl }
mark-is mark.OpenList depth = record { terminal = refl; deep = refl }
mark-is mark.CloseList depth = record { terminal = refl; deep = refl }
mark-is mark.Comma depth = record { terminal = refl; deep = refl }
mark-is mark.Stop depth = record { terminal = refl; deep = refl }
mark-is mark.Colon depth = record { terminal = refl; deep = refl }
mark-is mark.Arrow depth = record { terminal = refl; deep = refl }
mark-is mark.At depth = record { terminal = refl; deep = refl }

abbrev pub indiv_word : ℕ → Word
indiv_word depth = some_token kind.Dollar (codes "$i") depth

pub indiv-is : (depth : ℕ) → Is terminal.Indiv depth (indiv_word depth)
unfolding terminal_of
indiv-is depth = record { terminal = refl; deep = refl }

abbrev pub truth_word : ℕ → Word
truth_word depth = some_token kind.Dollar (codes "$true") depth

pub truth-is : (depth : ℕ) → Is (terminal.Truth true) depth (truth_word depth)
unfolding terminal_of
truth-is depth = record { terminal = refl; deep = refl }

abbrev pub lower_word : ℕ → Word
lower_word depth = some_token kind.Lower (codes "p") depth

pub lower-is : (depth : ℕ) → Is terminal.Lower depth (lower_word depth)
unfolding terminal_of
lower-is depth = record { terminal = refl; deep = refl }

abbrev pub upper_word : ℕ → Word
upper_word depth = some_token kind.Upper (codes "X") depth

pub upper-is : (depth : ℕ) → Is terminal.Upper depth (upper_word depth)
unfolding terminal_of
upper-is depth = record { terminal = refl; deep = refl }

abbrev pub quoted_word : ℕ → Word
quoted_word depth = some_token kind.Quoted (codes "'p'") depth

pub quoted-is : (depth : ℕ) → Is terminal.Quoted depth (quoted_word depth)
unfolding terminal_of
quoted-is depth = record { terminal = refl; deep = refl }

abbrev pub include_word : Word
include_word = some_token kind.Lower (codes "include") 0

pub include-is : Is terminal.Lower 0 include_word
unfolding terminal_of
include-is = record { terminal = refl; deep = refl }

abbrev pub end_word : Word
end_word = some_token kind.End [] 0

pub end-is : Is terminal.End 0 end_word
unfolding terminal_of
end-is = record { terminal = refl; deep = refl }
