-- Texts as tokens with white space between them.
use Rattle.std.proofs.Common.{ℕ, ◌+◌, Bool, true, false, ◌==◌, ◌||◌, List, [], ◌∷◌, ◌++◌, length, codes}
use Rattle.std.specs.Prelude.{IsTrue}
use Rattle.std.specs.List.{list_any}
use Rattle.thf_grammar.specs.declared.token.TokenKind.{TokenKind}
use Rattle.thf_grammar.specs.declared.token.TokenKind.TheVariants as kind
use Rattle.thf_grammar.specs.declared.token.Token.{Token}
use Rattle.thf_grammar.specs.Texts.{IsToken}
use Rattle.thf_grammar.specs.Reading.{token_at}
use Rattle.thf_grammar.specs.Words.{Word}

-- a token with its depth, or a byte of white space
pub data Piece : Type 0 where
  token : (kind : TokenKind) (text : List ℕ) (depth : ℕ) → Piece
  gap : (byte : ℕ) → Piece

-- the text that the pieces make
abbrev pub bytes_of : List Piece → List ℕ
bytes_of [] = []
bytes_of (token kind text depth ∷ ps) = text ++ bytes_of ps
bytes_of (gap byte ∷ ps) = byte ∷ bytes_of ps

abbrev pub word_at : TokenKind → List ℕ → ℕ → ℕ → Word
word_at kind text at depth = record { lexeme = record { kind = kind; text = text; at = at }; depth = depth }

-- the tokens of the pieces and the end, where the text begins at this place
abbrev pub words_at : ℕ → List Piece → List Word
words_at at [] = word_at kind.End [] at 0 ∷ []
words_at at (token kind text depth ∷ ps) = word_at kind text at depth ∷ words_at (at + length text) ps
words_at at (gap byte ∷ ps) = words_at (at + 1) ps

abbrev pub tokens_at : ℕ → List Piece → List Token
tokens_at at [] = token_at kind.End at at ∷ []
tokens_at at (token kind text depth ∷ ps) = token_at kind at (at + length text) ∷ tokens_at (at + length text) ps
tokens_at at (gap byte ∷ ps) = tokens_at (at + 1) ps

-- the bytes of the marks `(`, `)`, `[`, `]`, `,`, `.` and `:`, with which no longer symbol begins and none goes on
abbrev pub is_mark_byte : ℕ → Bool
is_mark_byte c = list_any (λ m. c == m) (codes "()[],.:")

abbrev pub is_mark : List ℕ → Bool
is_mark [] = false
is_mark (c ∷ []) = is_mark_byte c
is_mark (c ∷ d ∷ cs) = false

-- the white space that is written: a space and a line feed
abbrev pub is_blank : ℕ → Bool
is_blank c = list_any (λ m. c == m) (codes " \n")

-- no token before the pieces goes on in them
abbrev pub stops : List Piece → Bool
stops [] = true
stops (token kind text depth ∷ ps) = is_mark text
stops (gap byte ∷ ps) = true

-- no white space before the pieces goes on in them
abbrev pub begins : List Piece → Bool
begins [] = true
begins (token kind text depth ∷ ps) = true
begins (gap byte ∷ ps) = false

-- tokens and white space, each of which ends where the next begins
abbrev pub AreApart : List Piece → Type 0
AreApart [] = Unit {0}
AreApart (token kind text depth ∷ ps) = IsToken kind text × IsTrue (is_mark text || stops ps) × AreApart ps
AreApart (gap byte ∷ ps) = IsTrue (is_blank byte) × IsTrue (begins ps) × AreApart ps
