-- What a reader finds at the front of tokens.
use Rattle.std.specs.Prelude.{ℕ, List, [], ◌∷◌, Bool, false, Option, Some, None, if◌then◌else◌}
use Rattle.thf_grammar.specs.declared.terminal.Mark.{Mark}
use Rattle.thf_grammar.specs.declared.terminal.Terminal.{Terminal}
use Rattle.thf_grammar.specs.declared.terminal.Terminal.TheVariants as terminal
use Rattle.thf_grammar.specs.Internal.Marks.{is_mark}
use Rattle.thf_grammar.specs.Words.{Lexeme, terminal_of, name_of}

-- something with the tokens behind it, or the tokens from the one on that is wrong or too deep
pub data Outcome (A : Type 0) : Type 0 where
  found : A → List Lexeme → Outcome A
  wrong : List Lexeme → Outcome A
  deep : List Lexeme → Outcome A

abbrev pub Reader : Type 0 → Type 0
Reader A = List Lexeme → Outcome A

infixl 10 ◌>>=◌
abbrev pub ◌>>=◌ : {A B : Type 0} → Outcome A → (A → List Lexeme → Outcome B) → Outcome B
(found x rest) >>= f = f x rest
(wrong rest) >>= f = wrong rest
(deep rest) >>= f = deep rest

unfoldable pub first_terminal : List Lexeme → Terminal
first_terminal [] = terminal.Other
first_terminal (t ∷ ts) = terminal_of t

unfoldable pub place_of_first : List Lexeme → ℕ
place_of_first [] = 0
place_of_first (t ∷ ts) = t.at

unfoldable pub first_name : List Lexeme → List ℕ
first_name [] = []
first_name (t ∷ ts) = name_of t

unfoldable pub first_text : List Lexeme → List ℕ
first_text [] = []
first_text (t ∷ ts) = t.text

unfoldable pub lexemes_behind : List Lexeme → List Lexeme
lexemes_behind [] = []
lexemes_behind (t ∷ ts) = ts

-- a mark, and nothing of it
abbrev pub expect_by : Mark → Terminal → List Lexeme → Outcome (Unit {0})
expect_by mark t ts = if is_mark mark t then found tt (lexemes_behind ts) else wrong ts

unfoldable pub expect : Mark → List Lexeme → Outcome (Unit {0})
expect mark ts = expect_by mark (first_terminal ts) ts

-- what a reader finds that stands one level deeper, where there is room for one
abbrev pub enter : {A R : Type 0} → Option R → List Lexeme → (R → Outcome A) → Outcome A
enter None ts f = deep ts
enter (Some r) ts f = f r
