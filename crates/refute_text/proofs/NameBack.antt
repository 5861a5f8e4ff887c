-- The texts of numbers and names are read back.
use Rattle.std.proofs.Common.{◌≡◌, ℕ, zero, suc, ◌^◌, ◌<◌, ◌≤◌, ◌==◌, ◌&&◌, ◌||◌, not, nat_eq, nat_lt, Bool, true, false, List, [], ◌∷◌, ◌++◌, Some, None, length, get_or, decimal, codes, refl, ap, ap₂, ◌∙◌, append_assoc, append-nil, arith, if◌then◌else◌}
use Rattle.std.specs.List.{list_all, flat_map}
use Rattle.std.specs.Char.{is_ascii_lowercase}
use Rattle.std.proofs.lemmas.Bool.{and_parts, not-true, or_left, or_right, lt-ltb}
use Rattle.std.proofs.lemmas.Bool.Decides.{nat_tests}
use Rattle.std.proofs.lemmas.Fmt.{decimal_digit, decimal_nonempty, first_decimal, digits_decimal, digits_value-decimal}
use Rattle.thf_grammar.specs.Bytes.{is_word_byte}
use Rattle.thf_grammar.specs.Printable.{is_printable}
use Rattle.thf_names.specs.Names.{is_lower_word, escaped, quoted, name_text}
use Rattle.refute_print.specs.Letters.{is_printable_name}
use Rattle.refute_text.specs.Internal.Reader.{behind_text, has_no_leading_zero, number_below, number_at, with_first, characters_at, escaped_at, where_quoted, plain_at, name_at}
use Rattle.outside.specs.Fronts.{front, behind_front}
use Rattle.outside.specs.Decimal.{is_digit}
use Rattle.refute_text.proofs.Numbers.{own}
use Rattle.refute_text.proofs.LowerWords.{lower_word-bytes}
use Rattle.refute_text.proofs.Inversions.{found}
use Rattle.refute_text.proofs.Answers.{front_skips, behind_other}

-- bytes that don't go on with a letter, a digit or `_`
abbrev pub stops : List ℕ → Bool
stops [] = true
stops (c ∷ cs) = not (is_word_byte c)

front-append : (p : ℕ → Bool) (w rest : List ℕ) → list_all p w ≡ true → front p (w ++ rest) ≡ w ++ front p rest
front-append p [] rest h = refl
front-append p (c ∷ w) rest h =
    let e = and_parts (p c) (list_all p w) h in
    ap₂ (λ b l. if b then c ∷ l else []) e.0 (front-append p w rest e.1)

after-append : (p : ℕ → Bool) (w rest : List ℕ) → list_all p w ≡ true → behind_front p (w ++ rest) ≡ behind_front p rest
after-append p [] rest h = refl
after-append p (c ∷ w) rest h =
    let e = and_parts (p c) (list_all p w) h in
    ap₂ (λ b l. if b then l else c ∷ (w ++ rest)) e.0 (after-append p w rest e.1)

-- bytes of which the first one doesn't pass the test
ends_at : (p : ℕ → Bool) (c : ℕ) (cs : List ℕ) → p c ≡ false → (front p (c ∷ cs) ≡ []) × (behind_front p (c ∷ cs) ≡ c ∷ cs)
ends_at p c cs h = (ap (λ b. if b then c ∷ front p cs else []) h, ap (λ b. if b then behind_front p cs else c ∷ cs) h)

word_ends : (rest : List ℕ) → stops rest ≡ true → (front is_word_byte rest ≡ []) × (behind_front is_word_byte rest ≡ rest)
word_ends [] h = (refl, refl)
word_ends (c ∷ cs) h = ends_at is_word_byte c cs (not-true (is_word_byte c) h)

no_word_byte-no_digit : (c : ℕ) → is_word_byte c ≡ false → is_digit c ≡ false
no_word_byte-no_digit c h = go (is_digit c) refl
  where
    go : (b : Bool) → is_digit c ≡ b → is_digit c ≡ false
    go true e = absurd (grind (arith, nat_tests, h, e))
    go false e = e

digits_end : (rest : List ℕ) → stops rest ≡ true → (front is_digit rest ≡ []) × (behind_front is_digit rest ≡ rest)
digits_end [] h = (refl, refl)
digits_end (c ∷ cs) h = ends_at is_digit c cs (no_word_byte-no_digit c (not-true (is_word_byte c) h))

leading_digit : (ds : List ℕ) → 0 < length ds → 48 < get_or ds 0 0 → has_no_leading_zero ds ≡ true
leading_digit [] h k = absurd (omega arith)
leading_digit (c ∷ []) h k = refl
leading_digit (c ∷ d ∷ ds) h k = go (c == 48) refl
  where
    go : (b : Bool) → (c == 48) ≡ b → not b ≡ true
    go true e = absurd (grind (arith, nat_tests))
    go false e = refl

is_decimal-decimal : (n : ℕ) → n < 2 ^ 64 → has_no_leading_zero (decimal n) ≡ true
is_decimal-decimal zero h = ap has_no_leading_zero (decimal_digit 0 (omega arith))
is_decimal-decimal (suc n) h = leading_digit (decimal (suc n)) (decimal_nonempty (suc n) h) (first_decimal (suc n) (omega arith) h)

pub number_at-decimal : (limit n : ℕ) (rest : List ℕ) → n < limit → limit ≤ 2 ^ 64 → stops rest ≡ true → number_at limit (decimal n ++ rest) ≡ Some (n, rest)
unfolding number_at
number_at-decimal limit n rest below small stop =
    let s : n < 2 ^ 64 = omega (arith, below, small) in
    let digits = digits_decimal own n s in
    let e = digits_end rest stop in
    let f : front is_digit (decimal n ++ rest) ≡ decimal n = front-append is_digit (decimal n) rest digits ∙ ap (λ x. decimal n ++ x) e.0 ∙ append-nil (decimal n) in
    let a : behind_front is_digit (decimal n ++ rest) ≡ rest = after-append is_digit (decimal n) rest digits ∙ e.1 in
    ap₂ (number_below limit) f a
    ∙ ap₂ (λ b m. if b && nat_lt m limit then found m rest else None) (is_decimal-decimal n s) (digits_value-decimal own n s)
    ∙ ap (λ b. if b then found n rest else None) (lt-ltb n limit below)

-- names
pick_third : {A : Type 0} (q b p : Bool) (x y z v : A) → q ≡ false → b ≡ false → p ≡ true → (if q then x else (if b then y else (if p then z else v))) ≡ z
pick_third true b p x y z v e f g = cc
pick_third false true p x y z v e f g = cc
pick_third false false true x y z v e f g = refl
pick_third false false false x y z v e f g = cc

character_back : (c : ℕ) (w more rest : List ℕ) (q b : Bool) → (c == 39) ≡ q → (c == 92) ≡ b → is_printable c ≡ true → characters_at more ≡ found w rest → characters_at (escaped c ++ more) ≡ found (c ∷ w) rest
character_back c w more rest true b e f p h =
    let e' : (c == 39) || (c == 92) ≡ true = or_left (c == 39) (c == 92) e in
    ap (λ b. characters_at ((if b then 92 ∷ c ∷ [] else c ∷ []) ++ more)) e' ∙ ap (λ b. if b then with_first c (characters_at more) else None) e' ∙ ap (with_first c) h
character_back c w more rest false true e f p h =
    let e' : (c == 39) || (c == 92) ≡ true = or_right (c == 39) (c == 92) f in
    ap (λ b. characters_at ((if b then 92 ∷ c ∷ [] else c ∷ []) ++ more)) e' ∙ ap (λ b. if b then with_first c (characters_at more) else None) e' ∙ ap (with_first c) h
character_back c w more rest false false e f p h =
    ap₂ (λ q b. characters_at ((if q || b then 92 ∷ c ∷ [] else c ∷ []) ++ more)) e f
    ∙ pick_third (c == 39) (c == 92) (is_printable c) (found [] more) (escaped_at more) (with_first c (characters_at more)) None e f p ∙ ap (with_first c) h

characters_at-escaped : (w rest : List ℕ) → list_all is_printable w ≡ true → characters_at (flat_map escaped w ++ (39 ∷ rest)) ≡ found w rest
characters_at-escaped [] rest h = refl
characters_at-escaped (c ∷ w) rest h =
    let p = and_parts (is_printable c) (list_all is_printable w) h in
    ap characters_at (append_assoc (escaped c) (flat_map escaped w) (39 ∷ rest))
    ∙ character_back c w (flat_map escaped w ++ (39 ∷ rest)) rest (c == 39) (c == 92) refl refl p.0 (characters_at-escaped w rest p.1)

plain_at-append : (w rest : List ℕ) → is_lower_word w ≡ true → stops rest ≡ true → plain_at (w ++ rest) ≡ found w rest
plain_at-append w rest h stop =
    let words = lower_word-bytes w h in
    let e = word_ends rest stop in
    let f : front is_word_byte (w ++ rest) ≡ w = front-append is_word_byte w rest words ∙ ap (λ x. w ++ x) e.0 ∙ append-nil w in
    let a : behind_front is_word_byte (w ++ rest) ≡ rest = after-append is_word_byte w rest words ∙ e.1 in
    ap₂ (λ x y. if is_lower_word x then found x y else None) f a ∙ ap (λ b. if b then found w rest else None) h

-- a byte below the letters
below_letters : (x c : ℕ) → nat_lt x 97 ≡ true → is_ascii_lowercase c ≡ true → nat_eq x c ≡ false
below_letters x c h k = go (nat_eq x c) refl
  where
    go : (b : Bool) → nat_eq x c ≡ b → nat_eq x c ≡ false
    go true e = absurd (grind (arith, nat_tests, e, h, k))
    go false e = e

pub behind-name : (x : ℕ) (t w rest : List ℕ) → nat_eq x 39 ≡ false → nat_lt x 97 ≡ true → is_printable_name w ≡ true → behind_text (x ∷ t) (name_text w ++ rest) ≡ None
behind-name x t [] rest h k n = cc
behind-name x t (c ∷ cs) rest h k n = go (is_lower_word (c ∷ cs)) refl
  where
    go : (b : Bool) → is_lower_word (c ∷ cs) ≡ b → behind_text (x ∷ t) ((if b then c ∷ cs else quoted (c ∷ cs)) ++ rest) ≡ None
    go true e = behind_other x t c (cs ++ rest) (below_letters x c k (and_parts (is_ascii_lowercase c) (list_all is_word_byte cs) e).0)
    go false e = behind_other x t 39 ((flat_map escaped (c ∷ cs) ++ codes "'") ++ rest) h

plain_back : (c : ℕ) (cs rest : List ℕ) → is_lower_word (c ∷ cs) ≡ true → stops rest ≡ true → name_at ((c ∷ cs) ++ rest) ≡ found (c ∷ cs) rest
unfolding name_at
plain_back c cs rest e stop =
    let p = and_parts (is_ascii_lowercase c) (list_all is_word_byte cs) e in
    front_skips (behind_text (codes "'") (c ∷ (cs ++ rest))) (λ r. where_quoted (characters_at r)) (plain_at (c ∷ (cs ++ rest))) (c ∷ cs, rest)
    (behind_other 39 [] c (cs ++ rest) (below_letters 39 c refl p.0)) (plain_at-append (c ∷ cs) rest e stop)

quoted_back : (c : ℕ) (cs rest : List ℕ) → is_lower_word (c ∷ cs) ≡ false → list_all is_printable (c ∷ cs) ≡ true → name_at (quoted (c ∷ cs) ++ rest) ≡ found (c ∷ cs) rest
unfolding name_at
quoted_back c cs rest e p =
    ap (λ x. where_quoted (characters_at x)) (append_assoc (flat_map escaped (c ∷ cs)) (codes "'") rest)
    ∙ ap where_quoted (characters_at-escaped (c ∷ cs) rest p)
    ∙ ap (λ b. if not b then found (c ∷ cs) rest else None) e

pub name_at-text : (w rest : List ℕ) → is_printable_name w ≡ true → stops rest ≡ true → name_at (name_text w ++ rest) ≡ Some (w, rest)
name_at-text [] rest h stop = cc
name_at-text (c ∷ cs) rest h stop = go (is_lower_word (c ∷ cs)) refl
  where
    go : (b : Bool) → is_lower_word (c ∷ cs) ≡ b → name_at ((if b then c ∷ cs else quoted (c ∷ cs)) ++ rest) ≡ found (c ∷ cs) rest
    go true e = plain_back c cs rest e stop
    go false e = quoted_back c cs rest e h
