-- How names are spelled: the tokens that are written for them are tokens, and are these names.
use Rattle.std.proofs.Common.{◌≡◌, ℕ, ◌-◌, ◌<◌, Bool, true, false, ◌&&◌, ◌||◌, ◌⊎◌, inl, inr, List, [], ◌∷◌, ◌++◌, length, take, refl, ap, ◌∙◌, arith, leb, eqb, length-append, if◌then◌else◌}
use Rattle.std.specs.List.{flat_map, list_all}
use Rattle.std.specs.Char.{is_ascii_lowercase, is_ascii_digit}
use Rattle.std.proofs.Math.Seq.{take-append_seam}
use Rattle.std.proofs.lemmas.Bool.{and_parts, and_from, or_parts, or_cases, not_from_false}
use Rattle.std.proofs.lemmas.List.Sums.{AllPass-from_list_all}
use Rattle.thf_grammar.specs.declared.token.TokenKind.{TokenKind}
use Rattle.thf_grammar.specs.declared.token.TokenKind.TheVariants.{Lower, Quoted, Integer}
use Rattle.thf_grammar.specs.Bytes.{single_quote, backslash, is_word_byte, is_sign}
use Rattle.thf_grammar.specs.Texts.{IsToken, IsInteger, IsDigits, AreCharacters, none, plain, escape}
use Rattle.thf_grammar.specs.Words.{unescaped, name_in}
use Rattle.thf_names.specs.Names.{is_lower_word, are_digits, is_integer, escaped, quoted, name_text, label_text}
use Rattle.thf_syntax.proofs.Printed.{name_kind, label_kind}

-- a character that may stand between quotes
abbrev pub is_character : ℕ → Bool
is_character c = leb 32 c && leb c 126

-- one character or more
abbrev pub is_nameable : List ℕ → Bool
is_nameable [] = false
is_nameable (c ∷ cs) = is_character c && list_all is_character cs

abbrev escaped_if : Bool → ℕ → List ℕ
escaped_if b c = if b then backslash ∷ c ∷ [] else c ∷ []

characters-one : (b : Bool) (c : ℕ) (rest : List ℕ) → (eqb c single_quote || eqb c backslash) ≡ b → is_character c ≡ true → AreCharacters single_quote rest → AreCharacters single_quote (escaped_if b c ++ rest)
characters-one true c rest special fits later = escape backslash c rest refl special later
characters-one false c rest special fits later =
    let apart = or_parts (eqb c single_quote) (eqb c backslash) special in
    plain c rest (and_from _ _ fits (and_from _ _ (not_from_false (eqb c single_quote) apart.0) (not_from_false (eqb c backslash) apart.1))) later

characters-escaped : (name : List ℕ) → list_all is_character name ≡ true → AreCharacters single_quote (flat_map escaped name)
characters-escaped [] h = none
characters-escaped (c ∷ cs) h =
    let parts = and_parts (is_character c) (list_all is_character cs) h in
    characters-one (eqb c single_quote || eqb c backslash) c (flat_map escaped cs) refl parts.0 (characters-escaped cs parts.1)

pub unescaped-plain : (c : ℕ) (rest : List ℕ) → eqb c backslash ≡ false → unescaped (c ∷ rest) ≡ c ∷ unescaped rest
unescaped-plain c [] h = refl
unescaped-plain c (d ∷ ds) h = ap (λ b. if b then d ∷ unescaped ds else c ∷ unescaped (d ∷ ds)) h

unescaped-one : (b : Bool) (c : ℕ) (rest : List ℕ) → (eqb c single_quote || eqb c backslash) ≡ b → unescaped (escaped_if b c ++ rest) ≡ c ∷ unescaped rest
unescaped-one true c rest special = refl
unescaped-one false c rest special = unescaped-plain c rest (or_parts (eqb c single_quote) (eqb c backslash) special).1

unescaped-escaped : (name : List ℕ) → unescaped (flat_map escaped name) ≡ name
unescaped-escaped [] = refl
unescaped-escaped (c ∷ cs) = unescaped-one (eqb c single_quote || eqb c backslash) c (flat_map escaped cs) refl ∙ ap (λ t. c ∷ t) (unescaped-escaped cs)

nameable-characters : (name : List ℕ) → is_nameable name ≡ true → list_all is_character name ≡ true
nameable-characters [] h = refl
nameable-characters (c ∷ cs) h = h

escaped-some : (name : List ℕ) → is_nameable name ≡ true → 0 < length (flat_map escaped name)
escaped-some [] h = cc
escaped-some (c ∷ cs) h = some (eqb c single_quote || eqb c backslash)
  where
    some : (b : Bool) → 0 < length (escaped_if b c ++ flat_map escaped cs)
    some true = omega arith
    some false = omega arith

-- what is written in quotes is a token
pub quoted-token : (name : List ℕ) → is_nameable name ≡ true → IsToken Quoted (quoted name)
quoted-token name h = record {
  inside = flat_map escaped name;
  some = escaped-some name h;
  characters = characters-escaped name (nameable-characters name h);
  whole = refl;
}

-- and is the name
pub name_in-quoted : (name : List ℕ) → name_in Quoted (quoted name) ≡ name
name_in-quoted name =
    let inside = flat_map escaped name in
    let long : length (quoted name) - 1 - 1 ≡ length inside = omega (arith, length-append inside (39 ∷ [])) in
    ap (λ n. unescaped (take n (inside ++ 39 ∷ []))) long ∙ ap unescaped (take-append_seam inside (39 ∷ [])) ∙ unescaped-escaped name

-- a lower word as it stands
pub lower-token : (name : List ℕ) → is_lower_word name ≡ true → IsToken Lower name
lower-token [] h = cc
lower-token (c ∷ cs) h =
    let parts = and_parts (is_ascii_lowercase c) (list_all is_word_byte cs) h in
    (parts.0, AllPass-from_list_all is_word_byte cs parts.1)

digits-token : (text : List ℕ) → are_digits text ≡ true → IsDigits text
digits-token [] h = cc
digits-token (c ∷ cs) h =
    let parts = and_parts (is_ascii_digit c) (list_all is_ascii_digit cs) h in
    (parts.0, AllPass-from_list_all is_ascii_digit cs parts.1)

integer-token : (name : List ℕ) → is_integer name ≡ true → IsToken Integer name
integer-token [] h = cc
integer-token (c ∷ cs) h = either (or_cases (are_digits (c ∷ cs)) (is_sign c && are_digits cs) h)
  where
    either : (are_digits (c ∷ cs) ≡ true) ⊎ ((is_sign c && are_digits cs) ≡ true) → IsInteger (c ∷ cs)
    either (inl digits) = inl (digits-token (c ∷ cs) digits)
    either (inr signed) = let parts = and_parts (is_sign c) (are_digits cs) signed in inr (parts.0, digits-token cs parts.1)

-- the token of a name, by whether it is a lower word
abbrev pub kind_by : Bool → TokenKind
kind_by b = if b then Lower else Quoted

abbrev pub text_by : Bool → List ℕ → List ℕ
text_by b name = if b then name else quoted name

pub name-token : (name : List ℕ) → is_nameable name ≡ true → IsToken (name_kind name) (name_text name)
name-token name h = by_word (is_lower_word name) refl
  where
    by_word : (b : Bool) → is_lower_word name ≡ b → IsToken (kind_by b) (text_by b name)
    by_word true e = lower-token name e
    by_word false e = quoted-token name h

pub name_in-name : (name : List ℕ) → name_in (name_kind name) (name_text name) ≡ name
name_in-name name = by_word (is_lower_word name)
  where
    by_word : (b : Bool) → name_in (kind_by b) (text_by b name) ≡ name
    by_word true = refl
    by_word false = name_in-quoted name

-- the token of a statement's name, by whether it is a lower word or an integer
abbrev pub label_kind_by : Bool → Bool → TokenKind
label_kind_by a b = if a then Lower else (if b then Integer else Quoted)

pub label-token : (name : List ℕ) → is_nameable name ≡ true → IsToken (label_kind name) (label_text name)
label-token name h = by_word (is_lower_word name) (is_integer name) refl refl
  where
    by_word : (a b : Bool) → is_lower_word name ≡ a → is_integer name ≡ b → IsToken (label_kind_by a b) (text_by (a || b) name)
    by_word true b e k = lower-token name e
    by_word false true e k = integer-token name k
    by_word false false e k = quoted-token name h

pub name_in-label : (name : List ℕ) → name_in (label_kind name) (label_text name) ≡ name
name_in-label name = by_word (is_lower_word name) (is_integer name)
  where
    by_word : (a b : Bool) → name_in (label_kind_by a b) (text_by (a || b) name) ≡ name
    by_word true b = refl
    by_word false true = refl
    by_word false false = name_in-quoted name
