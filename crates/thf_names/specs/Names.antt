-- How names are spelled.
use Rattle.std.specs.Prelude.{ℕ, Bool, false, ◌&&◌, ◌||◌, ◌==◌, List, [], ◌∷◌, ◌++◌, codes, if◌then◌else◌}
use Rattle.std.specs.List.{flat_map, list_all}
use Rattle.std.specs.Char.{is_ascii_lowercase, is_ascii_digit}
use Rattle.thf_grammar.specs.Bytes.{single_quote, backslash, is_word_byte, is_sign}

-- a lower-case letter, and then letters, digits and `_`
abbrev pub is_lower_word : List ℕ → Bool
is_lower_word [] = false
is_lower_word (c ∷ cs) = is_ascii_lowercase c && list_all is_word_byte cs

-- one digit or more
abbrev pub are_digits : List ℕ → Bool
are_digits [] = false
are_digits (c ∷ cs) = is_ascii_digit c && list_all is_ascii_digit cs

-- digits, behind a sign or alone
abbrev pub is_integer : List ℕ → Bool
is_integer [] = false
is_integer (c ∷ cs) = are_digits (c ∷ cs) || (is_sign c && are_digits cs)

-- a character between quotes: a backslash stands before a quote and before a backslash
abbrev pub escaped : ℕ → List ℕ
escaped c = if c == single_quote || c == backslash then backslash ∷ c ∷ [] else c ∷ []

abbrev pub quoted : List ℕ → List ℕ
quoted name = codes "'" ++ (flat_map escaped name ++ codes "'")

-- a name, in quotes unless it is a lower word
abbrev pub name_text : List ℕ → List ℕ
name_text name = if is_lower_word name then name else quoted name

-- the name of a statement, in quotes unless it is a lower word or an integer
abbrev pub label_text : List ℕ → List ℕ
label_text name = if is_lower_word name || is_integer name then name else quoted name
