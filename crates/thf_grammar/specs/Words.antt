-- Tokens with their texts, and with their depths.
use Rattle.std.specs.Prelude.{◌≡◌, ℕ, ◌-◌, ◌==◌, if◌then◌else◌, List, [], ◌∷◌, length, map, slice_range}
use Rattle.thf_grammar.specs.declared.token.TokenKind.{TokenKind}
use Rattle.thf_grammar.specs.declared.token.TokenKind.TheVariants as kind
use Rattle.thf_grammar.specs.declared.token.Token.{Token}
use Rattle.thf_grammar.specs.Bytes.{backslash}
use Rattle.thf_grammar.specs.declared.terminal.Terminal.{Terminal}
use Rattle.thf_grammar.specs.declared.terminal.Terminal.TheVariants as terminal
use Rattle.thf_grammar.specs.Terminals as spec

-- a token with its text, and the byte place where it begins
pub record Lexeme : Type 0 where
  pub kind : TokenKind
  pub text : List ℕ
  pub at : ℕ

abbrev pub lexeme : List ℕ → Token → Lexeme
lexeme bytes token = record { kind = token.kind; text = slice_range bytes token.from token.to; at = token.from }

-- the tokens of these bytes with their texts
abbrev pub lexemes : List ℕ → List Token → List Lexeme
lexemes bytes tokens = map (lexeme bytes) tokens

unfoldable pub terminal_of : Lexeme → Terminal
terminal_of t = spec.of_kind t.kind t.text

-- the characters of a quoted name, where a backslash stands before the one that is meant
abbrev pub unescaped : List ℕ → List ℕ
unescaped [] = []
unescaped (c ∷ []) = c ∷ []
unescaped (b ∷ c ∷ cs) = if b == backslash then c ∷ unescaped cs else b ∷ unescaped (c ∷ cs)

-- the name that a token of this kind with this text is: a quoted name stands between its quotes
abbrev pub name_in : TokenKind → List ℕ → List ℕ
name_in kind.Quoted text = unescaped (slice_range text 1 (length text - 1))
name_in kind.Lower text = text
name_in kind.Upper text = text
name_in kind.Dollar text = text
name_in kind.Integer text = text
name_in kind.Distinct text = text
name_in kind.Symbol text = text
name_in kind.End text = text
name_in kind.Bad text = text

unfoldable pub name_of : Lexeme → List ℕ
name_of t = name_in t.kind t.text

-- a token of a file, with its depth: how deep nesting is there, its own included
pub record Word : Type 0 where
  pub lexeme : Lexeme
  pub depth : ℕ

-- the tokens without their depths
abbrev pub plain : List Word → List Lexeme
plain ws = map (λ w. w.lexeme) ws

abbrev pub place : Word → ℕ
place w = w.lexeme.at

abbrev pub name : Word → List ℕ
name w = name_of w.lexeme

-- the token is this terminal, at this depth
pub record Is (t : Terminal) (depth : ℕ) (w : Word) : Type 0 where
  pub terminal : terminal_of w.lexeme ≡ t
  pub deep : w.depth ≡ depth

-- the token is a name, at this depth
pub data IsName (depth : ℕ) (w : Word) : Type 0 where
  lower : Is terminal.Lower depth w → IsName depth w
  quoted : Is terminal.Quoted depth w → IsName depth w
