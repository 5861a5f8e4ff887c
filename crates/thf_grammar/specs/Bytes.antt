-- The bytes that begin and fill the tokens of THF.
use Rattle.std.specs.Prelude.{ℕ, Bool, not, ◌&&◌, ◌||◌, ◌==◌, nat_le}
use Rattle.std.specs.Char.{is_ascii_alphanumeric}

abbrev pub line_feed : ℕ
line_feed = 10

abbrev pub double_quote : ℕ
double_quote = 34

abbrev pub dollar : ℕ
dollar = 36

abbrev pub percent : ℕ
percent = 37

abbrev pub single_quote : ℕ
single_quote = 39

abbrev pub star : ℕ
star = 42

abbrev pub plus_sign : ℕ
plus_sign = 43

abbrev pub minus_sign : ℕ
minus_sign = 45

abbrev pub slash : ℕ
slash = 47

abbrev pub backslash : ℕ
backslash = 92

abbrev pub underscore : ℕ
underscore = 95

-- tab, line feed, vertical tab, form feed, carriage return and space
abbrev pub is_white_space : ℕ → Bool
is_white_space c = (nat_le 9 c && nat_le c 13) || c == 32

-- a letter, a digit or `_`
abbrev pub is_word_byte : ℕ → Bool
is_word_byte c = is_ascii_alphanumeric c || c == underscore

-- a byte that a comment may hold up to the end of its line
abbrev pub is_in_line : ℕ → Bool
is_in_line c = not (c == line_feed)

abbrev pub is_sign : ℕ → Bool
is_sign c = c == plus_sign || c == minus_sign

-- a byte that stands for itself between these quotes
abbrev pub is_plain : ℕ → ℕ → Bool
is_plain quote c = (nat_le 32 c && nat_le c 126) && (not (c == quote) && not (c == backslash))

-- a byte that a backslash may stand before between these quotes
abbrev pub is_escaped : ℕ → ℕ → Bool
is_escaped quote c = c == quote || c == backslash
