-- Bytes without a line feed.
use Rattle.std.proofs.Common.{◌≡◌, ℕ, zero, suc, ◌+◌, ◌/◌, ◌%◌, ◌||◌, ◌&&◌, ◌==◌, nat_lt, not, Bool, true, false, List, [], ◌∷◌, ◌++◌, codes, decimal, Some, refl, ap, ap₂, subst, if◌then◌else◌, sym, arith}
use Rattle.std.specs.List.{list_any}
use Rattle.std.specs.Option.{option_map_or}
use Rattle.std.specs.Fmt.{digits, digits_onto, digit_glyph}
use Rattle.std.proofs.lemmas.Bool.{and_parts, eqb-true}
use Rattle.std.proofs.lemmas.Bool.Decides.{nat_tests}
use Rattle.refute_text.specs.Reading.{is_one_line}
use Rattle.cli_words.specs.Names.{is_control, is_file_name}
use Rattle.cli_words.specs.Requests.{Request, prove, by_schedule, refutation, generated, models, sides, asked_by}
use Rattle.cli_words.proofs.RequestLaws.{IsNamed, asked_by-named}
use Rattle.request_answers.specs.Requested.{problem_name, asked_name, IsRequestInRange}

pub one_line-append : (xs ys : List ℕ) → is_one_line xs ≡ true → is_one_line ys ≡ true → is_one_line (xs ++ ys) ≡ true
one_line-append [] ys h k = k
one_line-append (x ∷ xs) ys h k = let q = and_parts (not (x == 10)) (is_one_line xs) h in ap₂ (λ a b. a && b) q.0 (one_line-append xs ys q.1 k)

one_line-cons : (x : ℕ) (xs : List ℕ) → (x == 10) ≡ false → is_one_line xs ≡ true → is_one_line (x ∷ xs) ≡ true
one_line-cons x xs h k = ap₂ (λ a b. not a && b) h k

-- numbers
glyph_no_feed : (d : ℕ) → (digit_glyph false d == 10) ≡ false
glyph_no_feed d = go (nat_lt d 10)
  where
    go : (b : Bool) → ((if b then 48 + d else 87 + d) == 10) ≡ false
    go true = grind (arith, nat_tests)
    go false = grind (arith, nat_tests)

digits_onto_one_line : (k n : ℕ) (acc : List ℕ) → is_one_line acc ≡ true → is_one_line (digits_onto k 10 false n acc) ≡ true
digits_onto_one_line zero n acc h = h
digits_onto_one_line (suc k) n acc h =
    let more = one_line-cons (digit_glyph false (n % 10)) acc (glyph_no_feed (n % 10)) h in
    go (n / 10 == 0) more (digits_onto_one_line k (n / 10) (digit_glyph false (n % 10) ∷ acc) more)
  where
    go : (b : Bool) → is_one_line (digit_glyph false (n % 10) ∷ acc) ≡ true → is_one_line (digits_onto k 10 false (n / 10) (digit_glyph false (n % 10) ∷ acc)) ≡ true → is_one_line (if b then digit_glyph false (n % 10) ∷ acc else digits_onto k 10 false (n / 10) (digit_glyph false (n % 10) ∷ acc)) ≡ true
    go true e f = e
    go false e f = f

pub decimal_one_line : (n : ℕ) → is_one_line (decimal n) ≡ true
unfolding digits
decimal_one_line n = digits_onto_one_line 64 n [] refl

-- the names of files
false_from_not : (b : Bool) → not b ≡ true → b ≡ false
false_from_not true h = cc
false_from_not false h = refl

line_feed_control : (c : ℕ) → (c == 10) ≡ true → is_control c ≡ true
line_feed_control c h = ap (λ x. nat_lt x 32 || (x == 127)) (eqb-true c 10 h)

-- bytes of which none is a control character
no_control-one_line : (xs : List ℕ) → list_any is_control xs ≡ false → is_one_line xs ≡ true
no_control-one_line [] h = refl
no_control-one_line (x ∷ xs) h = go (x == 10) refl (is_control x) refl (no_control-one_line xs) h
  where
    go : (b : Bool) → (x == 10) ≡ b → (d : Bool) → is_control x ≡ d → (list_any is_control xs ≡ false → is_one_line xs ≡ true) → d || list_any is_control xs ≡ false → not b && is_one_line xs ≡ true
    go true e true f rest k = cc
    go true e false f rest k = let q : is_control x ≡ true = line_feed_control x e in cc
    go false e true f rest k = cc
    go false e false f rest k = rest k

file_name-one_line : (name : List ℕ) → is_file_name name ≡ true → is_one_line name ≡ true
file_name-one_line name h = no_control-one_line name (false_from_not (list_any is_control name) (and_parts _ (not (list_any is_control name)) h).1)

-- the name of a generated problem
pub demo_one_line : (n : ℕ) → is_one_line (codes "demo " ++ decimal n) ≡ true
demo_one_line n = one_line-append (codes "demo ") (decimal n) refl (decimal_one_line n)

request_one_line : (r : Request) → IsNamed r → is_one_line (problem_name r) ≡ true
request_one_line (prove p mode nodes) h = file_name-one_line p h.0
request_one_line (by_schedule file p) h = file_name-one_line p h
request_one_line (refutation cuts text p) h = file_name-one_line p h
request_one_line (generated n) h = demo_one_line n
request_one_line (models upto p) h = file_name-one_line p h.0
request_one_line (sides p) h = file_name-one_line p h

-- the name by which a report calls the problem is one line
pub name_one_line : (words : List (List ℕ)) (r : Request) → asked_by words ≡ Some r → is_one_line (asked_name words) ≡ true
name_one_line words r h = subst (λ o. is_one_line (option_map_or problem_name o []) ≡ true) (sym h) (request_one_line r (asked_by-named words r h))

pub asked_in_range : (words : List (List ℕ)) (r : Request) → asked_by words ≡ Some r → IsRequestInRange r
asked_in_range words r h = go r (asked_by-named words r h)
  where
    go : (r : Request) → IsNamed r → IsRequestInRange r
    go (prove p mode nodes) k = tt
    go (by_schedule file p) k = tt
    go (refutation cuts text p) k = tt
    go (generated n) k = k
    go (models upto p) k = (k.1, k.2)
    go (sides p) k = tt
