-- The texts of each kind of token, and those that stand between tokens, after the syntax of the TPTP.
use Rattle.std.specs.Prelude.{◌≡◌, ℕ, ◌+◌, ◌-◌, ◌<◌, ◌≤◌, Bool, ◌==◌, ◌⊎◌, IsTrue, List, [], ◌∷◌, ◌++◌, length, slice_index, codes}
use Rattle.std.specs.List.{AllPass, list_any}
use Rattle.std.specs.Char.{is_ascii_lowercase, is_ascii_uppercase, is_ascii_digit}
use Rattle.std.specs.Str.{bytes_eq}
use Rattle.thf_grammar.specs.declared.token.TokenKind.{TokenKind}
use Rattle.thf_grammar.specs.declared.token.TokenKind.TheVariants.{Lower, Upper, Quoted, Dollar, Integer, Distinct, Symbol, End, Bad}
use Rattle.thf_grammar.specs.Bytes.{double_quote, dollar, percent, single_quote, star, slash, backslash, is_white_space, is_word_byte, is_in_line, is_sign, is_plain, is_escaped}

-- one byte that passes the first test, and then bytes that pass the second
abbrev pub IsRun : (ℕ → Bool) → (ℕ → Bool) → List ℕ → Type 0
IsRun first others [] = ⊥
IsRun first others (c ∷ cs) = IsTrue (first c) × AllPass others cs

abbrev pub IsLowerWord : List ℕ → Type 0
IsLowerWord text = IsRun is_ascii_lowercase is_word_byte text

abbrev pub IsUpperWord : List ℕ → Type 0
IsUpperWord text = IsRun is_ascii_uppercase is_word_byte text

-- `$` and a lower word
abbrev pub IsDollarWord : List ℕ → Type 0
IsDollarWord [] = ⊥
IsDollarWord (c ∷ cs) = (c ≡ dollar) × IsLowerWord cs

abbrev pub IsDigits : List ℕ → Type 0
IsDigits text = IsRun is_ascii_digit is_ascii_digit text

-- digits, behind a sign or alone
abbrev pub IsInteger : List ℕ → Type 0
IsInteger [] = ⊥
IsInteger (c ∷ cs) = IsDigits (c ∷ cs) ⊎ (IsTrue (is_sign c) × IsDigits cs)

-- characters between quotes: a byte that stands for itself, or a backslash and what it escapes
pub data AreCharacters (quote : ℕ) : List ℕ → Type 0 where
  none : AreCharacters quote []
  plain : (c : ℕ) (cs : List ℕ) → IsTrue (is_plain quote c) → AreCharacters quote cs → AreCharacters quote (c ∷ cs)
  escape : (b c : ℕ) (cs : List ℕ) → b ≡ backslash → IsTrue (is_escaped quote c) → AreCharacters quote cs → AreCharacters quote (b ∷ c ∷ cs)

-- one or more characters between two quotes
pub record IsQuotedBy (quote : ℕ) (text : List ℕ) : Type 0 where
  pub inside : List ℕ
  pub some : 0 < length inside
  pub characters : AreCharacters quote inside
  pub whole : text ≡ quote ∷ inside ++ quote ∷ []

abbrev pub symbols : List (List ℕ)
symbols =
    codes "(" ∷ codes ")" ∷ codes "[" ∷ codes "]" ∷ codes "," ∷ codes "." ∷ codes ":" ∷ codes ">"
    ∷ codes "~" ∷ codes "&" ∷ codes "|" ∷ codes "=>" ∷ codes "<=" ∷ codes "<=>" ∷ codes "<~>"
    ∷ codes "~|" ∷ codes "~&" ∷ codes "=" ∷ codes "!=" ∷ codes "!" ∷ codes "?" ∷ codes "^"
    ∷ codes "@" ∷ codes "!!" ∷ codes "??" ∷ codes "@+" ∷ codes "@-" ∷ []

-- the text is one of the symbols
abbrev pub is_symbol : List ℕ → Bool
is_symbol text = list_any (bytes_eq text) symbols

-- the texts of the tokens of a kind; the end and a bad byte are no texts
abbrev pub IsToken : TokenKind → List ℕ → Type 0
IsToken Lower text = IsLowerWord text
IsToken Upper text = IsUpperWord text
IsToken Quoted text = IsQuotedBy single_quote text
IsToken Dollar text = IsDollarWord text
IsToken Integer text = IsInteger text
IsToken Distinct text = IsQuotedBy double_quote text
IsToken Symbol text = IsTrue (is_symbol text)
IsToken End text = ⊥
IsToken Bad text = ⊥

abbrev pub IsWhiteSpace : List ℕ → Type 0
IsWhiteSpace text = IsRun is_white_space is_white_space text

-- `%` and what follows it on its line
abbrev pub IsLineComment : List ℕ → Type 0
IsLineComment text = IsRun (λ c. c == percent) is_in_line text

-- `*/` stands at this place
abbrev pub IsClosedAt : List ℕ → ℕ → Type 0
IsClosedAt text i = (slice_index text i ≡ star) × (slice_index text (i + 1) ≡ slash)

-- `/*`, and then everything up to the next `*/`
pub record IsBlockComment (text : List ℕ) : Type 0 where
  pub long : 4 ≤ length text
  pub slash_first : slice_index text 0 ≡ slash
  pub star_second : slice_index text 1 ≡ star
  pub closed : IsClosedAt text (length text - 2)
  pub next : (i : ℕ) → 2 ≤ i → i + 2 < length text → IsClosedAt text i → ⊥

-- what stands between tokens: white space or a comment
abbrev pub IsGap : List ℕ → Type 0
IsGap text = IsWhiteSpace text ⊎ IsLineComment text ⊎ IsBlockComment text
