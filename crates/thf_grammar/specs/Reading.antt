-- The tokens of bytes.
use Rattle.std.specs.Prelude.{ℕ, ◌+◌, List, [], ◌∷◌, drop}
use Rattle.thf_grammar.specs.declared.token.TokenKind.{TokenKind}
use Rattle.thf_grammar.specs.declared.token.TokenKind.TheVariants.{End, Bad}
use Rattle.thf_grammar.specs.declared.token.Token.{Token}
use Rattle.thf_grammar.specs.Longest.{IsLongestToken, IsLongestGap, BeginsNothing}

abbrev pub token_at : TokenKind → ℕ → ℕ → Token
token_at kind from to = record { kind = kind; from = from; to = to }

-- The tokens of what is left of the bytes at a place. White space and comments are passed over, the
-- longest token is taken, and the reading ends at the end or at the first byte that begins nothing.
pub data Reads : ℕ → List ℕ → List Token → Type 0 where
  gap : (at n : ℕ) (rest : List ℕ) (later : List Token) → IsLongestGap rest n → Reads (at + n) (drop n rest) later → Reads at rest later
  token :
      (kind : TokenKind) (at n : ℕ) (rest : List ℕ) (later : List Token)
      → IsLongestToken kind rest n
      → Reads (at + n) (drop n rest) later
      → Reads at rest (token_at kind at (at + n) ∷ later)
  bad : (at byte : ℕ) (rest : List ℕ) → BeginsNothing (byte ∷ rest) → Reads at (byte ∷ rest) (token_at Bad at (at + 1) ∷ [])
  end : (at : ℕ) → Reads at [] (token_at End at at ∷ [])

-- the tokens of a file
abbrev pub AreTokens : List ℕ → List Token → Type 0
AreTokens bytes tokens = Reads 0 bytes tokens
