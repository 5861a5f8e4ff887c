-- How the reader goes: what stands at the front of bytes, and what follows it.
use Rattle.std.specs.Prelude.{ℕ, zero, suc, ◌==◌, ◌||◌, ◌&&◌, not, nat_eq, nat_lt, drop, length, Bool, true, false, List, [], ◌∷◌, ◌++◌, codes, Option, Some, None, if◌then◌else◌}
use Rattle.std.specs.List.{starts_with}
use Rattle.thf_grammar.specs.Bytes.{is_word_byte}
use Rattle.thf_grammar.specs.Printable.{is_printable}
use Rattle.thf_names.specs.Names.{is_lower_word}
use Rattle.refute_print.specs.Trees.{TextTypeTree, formula, individual, named, arrow}
use Rattle.outside.specs.Decimal.{is_digit, number_from}
use Rattle.outside.specs.Fronts.{front, behind_front}

infixl 10 ◌>>=◌
abbrev pub ◌>>=◌ : {A B : Type 0} → Option A → (A → Option B) → Option B
(Some x) >>= f = f x
None >>= f = None

abbrev pub is_no_feed : ℕ → Bool
is_no_feed c = not (c == 10)

-- what follows the text, where the bytes begin with it
abbrev pub behind_text : List ℕ → List ℕ → Option (List ℕ)
behind_text text bytes = if starts_with nat_eq bytes text then Some (drop (length text) bytes) else None

-- what is read behind what is at the front, as a text, or else without it
abbrev pub by_front : {A X : Type 0} → Option X → (X → Option A) → Option A → Option A
by_front (Some rest) f other = f rest
by_front None f other = other

abbrev pub with_item : {X : Type 0} → X → Option (List X × List ℕ) → Option (List X × List ℕ)
with_item x None = None
with_item x (Some r) = Some (x ∷ r.0, r.1)

-- items, each behind a mark, at most so many
unfoldable pub repeated_at : {X : Type 0} → List ℕ → (List ℕ → Option (X × List ℕ)) → ℕ → List ℕ → Option (List X × List ℕ)
repeated_at mark item zero bytes = Some ([], bytes)
repeated_at mark item (suc n) bytes =
    by_front (behind_text mark bytes) (λ rest. item rest >>= (λ x. with_item x.0 (repeated_at mark item n x.1))) (Some ([], bytes))

-- items before those that are read
abbrev pub with_items : {X : Type 0} → List X → Option (List X × List ℕ) → Option (List X × List ℕ)
with_items xs None = None
with_items xs (Some r) = Some (xs ++ r.0, r.1)

-- whether digits are some, and don't begin with a zero unless it is alone
abbrev pub has_no_leading_zero : List ℕ → Bool
has_no_leading_zero [] = false
has_no_leading_zero (c ∷ []) = true
has_no_leading_zero (c ∷ d ∷ ds) = not (c == 48)

abbrev pub number_below : ℕ → List ℕ → List ℕ → Option (ℕ × List ℕ)
number_below limit ds rest = if has_no_leading_zero ds && nat_lt (number_from 0 ds) limit then Some (number_from 0 ds, rest) else None

-- a number below the limit
unfoldable pub number_at : ℕ → List ℕ → Option (ℕ × List ℕ)
number_at limit bytes = number_below limit (front is_digit bytes) (behind_front is_digit bytes)

abbrev pub with_first : ℕ → Option (List ℕ × List ℕ) → Option (List ℕ × List ℕ)
with_first c None = None
with_first c (Some r) = Some (c ∷ r.0, r.1)

abbrev mutual
  -- the characters up to the closing quote
  pub characters_at : List ℕ → Option (List ℕ × List ℕ)
  characters_at [] = None
  characters_at (c ∷ cs) =
      if c == 39 then Some ([], cs) else
      (if c == 92 then escaped_at cs else (if is_printable c then with_first c (characters_at cs) else None))

  -- the same behind a `\`
  pub escaped_at : List ℕ → Option (List ℕ × List ℕ)
  escaped_at [] = None
  escaped_at (c ∷ cs) = if (c == 39) || (c == 92) then with_first c (characters_at cs) else None

-- one character before the closing quote
abbrev pub escaped_character : List ℕ → Option (ℕ × List ℕ)
escaped_character [] = None
escaped_character (c ∷ cs) = if (c == 39) || (c == 92) then Some (c, cs) else None

abbrev pub character_at : List ℕ → Option (ℕ × List ℕ)
character_at [] = None
character_at (c ∷ cs) = if c == 92 then escaped_character cs else (if is_printable c then Some (c, cs) else None)

-- whether a name isn't empty and needs quotes
abbrev pub needs_quotes : List ℕ → Bool
needs_quotes [] = false
needs_quotes (c ∷ cs) = not (is_lower_word (c ∷ cs))

abbrev pub where_quoted : Option (List ℕ × List ℕ) → Option (List ℕ × List ℕ)
where_quoted None = None
where_quoted (Some r) = if needs_quotes r.0 then Some r else None

abbrev pub plain_at : List ℕ → Option (List ℕ × List ℕ)
plain_at bytes = if is_lower_word (front is_word_byte bytes) then Some (front is_word_byte bytes, behind_front is_word_byte bytes) else None

unfoldable pub name_at : List ℕ → Option (List ℕ × List ℕ)
name_at bytes = by_front (behind_text (codes "'") bytes) (λ rest. where_quoted (characters_at rest)) (plain_at bytes)

-- a type in which at most so many parentheses are open at once
abbrev pub named_at : List ℕ → Option (TextTypeTree × List ℕ)
named_at bytes = do
  name ← name_at bytes
  Some (named name.0, name.1)

abbrev pub arrow_at : (List ℕ → Option (TextTypeTree × List ℕ)) → List ℕ → Option (TextTypeTree × List ℕ)
arrow_at inside bytes = do
  from ← inside bytes
  rest ← behind_text (codes ">") from.1
  to ← inside rest
  rest ← behind_text (codes ")") to.1
  Some (arrow from.0 to.0, rest)

abbrev pub no_type : List ℕ → Option (TextTypeTree × List ℕ)
no_type bytes = None

abbrev pub type_from : (List ℕ → Option (TextTypeTree × List ℕ)) → List ℕ → Option (TextTypeTree × List ℕ)
type_from grouped bytes =
    by_front (behind_text (codes "$o") bytes) (λ rest. Some (formula, rest))
    (by_front (behind_text (codes "$i") bytes) (λ rest. Some (individual, rest))
    (by_front (behind_text (codes "(") bytes) grouped (named_at bytes)))

unfoldable pub type_at : ℕ → List ℕ → Option (TextTypeTree × List ℕ)
type_at zero bytes = type_from no_type bytes
type_at (suc depth) bytes = type_from (arrow_at (type_at depth)) bytes
