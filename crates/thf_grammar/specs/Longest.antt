-- The longest piece at the front of bytes.
use Rattle.std.specs.Prelude.{ℕ, ◌≤◌, List, length, take}
use Rattle.thf_grammar.specs.declared.token.TokenKind.{TokenKind}
use Rattle.thf_grammar.specs.Texts.{IsToken, IsGap}

-- the first n bytes are a token of this kind, and no token of any kind is longer
pub record IsLongestToken (kind : TokenKind) (bytes : List ℕ) (n : ℕ) : Type 0 where
  pub within : n ≤ length bytes
  pub token : IsToken kind (take n bytes)
  pub longest : (other : TokenKind) (m : ℕ) → m ≤ length bytes → IsToken other (take m bytes) → m ≤ n

-- the first n bytes stand between tokens, and no longer prefix does
pub record IsLongestGap (bytes : List ℕ) (n : ℕ) : Type 0 where
  pub within : n ≤ length bytes
  pub gap : IsGap (take n bytes)
  pub longest : (m : ℕ) → m ≤ length bytes → IsGap (take m bytes) → m ≤ n

-- neither a token nor white space nor a comment begins the bytes
pub record BeginsNothing (bytes : List ℕ) : Type 0 where
  pub token : (kind : TokenKind) (m : ℕ) → IsToken kind (take m bytes) → ⊥
  pub gap : (m : ℕ) → IsGap (take m bytes) → ⊥
