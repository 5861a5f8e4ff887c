-- Lower words are of letters, digits and `_`.
use Rattle.std.proofs.Common.{◌≡◌, ℕ, true, ◌&&◌, ◌||◌, ◌==◌, List, [], ◌∷◌, ap₂}
use Rattle.std.specs.List.{list_all}
use Rattle.std.specs.Char.{is_ascii_lowercase, is_ascii_digit, is_ascii_uppercase, is_ascii_alphanumeric}
use Rattle.std.proofs.lemmas.Bool.{and_parts, or_left, or_right}
use Rattle.thf_grammar.specs.Bytes.{underscore, is_word_byte}
use Rattle.thf_names.specs.Names.{is_lower_word}

pub lower_word-bytes : (w : List ℕ) → is_lower_word w ≡ true → list_all is_word_byte w ≡ true
lower_word-bytes [] h = cc
lower_word-bytes (c ∷ cs) h =
    let p = and_parts (is_ascii_lowercase c) (list_all is_word_byte cs) h in
    let letter = or_right (is_ascii_digit c || is_ascii_uppercase c) (is_ascii_lowercase c) p.0 in
    ap₂ (λ x y. x && y) (or_left (is_ascii_alphanumeric c) (c == underscore) letter) p.1
