-- The kind of a token by its first byte.
use Rattle.std.specs.Prelude.{◌≡◌, ℕ, Bool, ◌||◌, ◌==◌, if◌then◌else◌, codes}
use Rattle.std.specs.List.{list_any}
use Rattle.std.specs.Char.{is_ascii_lowercase, is_ascii_uppercase, is_ascii_digit}
use Rattle.thf_grammar.specs.declared.token.TokenKind.{TokenKind}
use Rattle.thf_grammar.specs.declared.token.TokenKind.TheVariants.{Lower, Upper, Quoted, Dollar, Integer, Distinct, Symbol, End, Bad}
use Rattle.thf_grammar.specs.Bytes.{double_quote, dollar, single_quote, is_sign}

-- a byte that begins a symbol
abbrev pub begins_symbol : ℕ → Bool
begins_symbol c = list_any (λ s. c == s) (codes "()[],.:>~&|=<!?^@")

-- the kind of the tokens that begin with a byte, or `Bad` where no token does
abbrev pub kind_of : ℕ → TokenKind
kind_of c =
    if is_ascii_lowercase c then Lower
    else (if is_ascii_uppercase c then Upper
    else (if is_ascii_digit c || is_sign c then Integer
    else (if c == single_quote then Quoted
    else (if c == double_quote then Distinct
    else (if c == dollar then Dollar
    else (if begins_symbol c then Symbol
    else Bad))))))

-- the quote that the tokens of a kind stand between
abbrev pub IsQuoteOf : TokenKind → ℕ → Type 0
IsQuoteOf Quoted quote = quote ≡ single_quote
IsQuoteOf Distinct quote = quote ≡ double_quote
IsQuoteOf Lower quote = ⊥
IsQuoteOf Upper quote = ⊥
IsQuoteOf Dollar quote = ⊥
IsQuoteOf Integer quote = ⊥
IsQuoteOf Symbol quote = ⊥
IsQuoteOf End quote = ⊥
IsQuoteOf Bad quote = ⊥
