-- Texts are made of characters from space to `~`, so that no line feed is in them.
use Rattle.std.proofs.Common.{◌≡◌, ℕ, suc, ◌+◌, ◌^◌, ◌<◌, ◌≤◌, ◌&&◌, ◌||◌, ◌==◌, Bool, true, false, List, [], ◌∷◌, ◌++◌, length, map, codes, decimal, refl, ap, ap₂, arith, if◌then◌else◌}
use Rattle.std.specs.List.{AllByRecursion, list_all, flat_map}
use Rattle.std.proofs.lemmas.Bool.{and_parts, not_from_false}
use Rattle.std.proofs.lemmas.Bool.Decides.{nat_tests}
use Rattle.std.proofs.lemmas.Fmt.{digits_decimal}
use Rattle.tableau_calculus.specs.declared.refutation.Child.{Child}
use Rattle.tableau_calculus.specs.declared.refutation.Child.TheVariants.{Closed, Line as Numbered}
use Rattle.thf_grammar.specs.Printable.{is_printable}
use Rattle.thf_names.specs.Names.{is_lower_word, escaped, quoted, name_text}
use Rattle.refute_print.specs.Letters.{is_printable_name}
use Rattle.tableau_calculus.specs.declared.rule_use.OnePlace.{OnePlace}
use Rattle.tableau_calculus.specs.declared.rule_use.OnePlace.TheVariants.{False}
use Rattle.tableau_calculus.specs.declared.rule_use.TwoPlaces.{TwoPlaces}
use Rattle.tableau_calculus.specs.declared.rule_use.TwoPlaces.TheVariants.{Close}
use Rattle.tableau_calculus.specs.declared.rule_use.OfPredicate.{OfPredicate}
use Rattle.tableau_calculus.specs.declared.rule_use.OfPredicate.TheVariants.{Cho}
use Rattle.tableau_calculus.specs.declared.rule_use.RuleUse.{RuleUse}
use Rattle.tableau_calculus.specs.declared.rule_use.RuleUse.TheVariants.{AtOne, AtTwo, AllPos, WithPredicate, Cut}
use Rattle.refute_print.specs.Trees.{TextTypeTree, formula, individual, named, arrow, ConstantTree, name, witness, falsity, negation, implication, all, equality, choice, description, TermTree, bound, constant, lam, app, LiteralTree, LineTree, RefutationTree}
use Rattle.refute_print.specs.Text.{version_text, definition_text, text_of_type, constant_text, term_text, spine_text, sign_text, literal_text, after_commas, comma_separated, branch_text, child_text, children_text, one_place_name, two_places_name, predicate_name, rule_text, row_text, line_text, row_texts, line_texts, text_lines}
use Rattle.refute_print.specs.Limits.{IsPrintableType, IsConstant, IsTerm, IsSpine, IsWithinLimits, IsLiteralText, IsRule, IsChild, IsLine}
use Rattle.outside.specs.Decimal.{is_digit}
use Rattle.refute_text.specs.Reading.{IsTextName, HasText, is_one_line, AreLines}
use Rattle.refute_text.proofs.Numbers.{own}

abbrev IsPrintable : List ℕ → Type 0
IsPrintable bytes = list_all is_printable bytes ≡ true

all-append : (p : ℕ → Bool) (xs ys : List ℕ) → list_all p xs ≡ true → list_all p ys ≡ true → list_all p (xs ++ ys) ≡ true
all-append p [] ys h k = k
all-append p (x ∷ xs) ys h k = let q = and_parts (p x) (list_all p xs) h in ap₂ (λ a b. a && b) q.0 (all-append p xs ys q.1 k)

both : (xs ys : List ℕ) → IsPrintable xs → IsPrintable ys → IsPrintable (xs ++ ys)
both xs ys h k = all-append is_printable xs ys h k

digit_printable : (c : ℕ) → is_digit c ≡ true → is_printable c ≡ true
digit_printable c h = go (is_printable c) refl
  where
    go : (b : Bool) → is_printable c ≡ b → is_printable c ≡ true
    go true e = e
    go false e = absurd (grind (arith, nat_tests, h, e))

digits_printable : (ds : List ℕ) → list_all is_digit ds ≡ true → IsPrintable ds
digits_printable [] h = refl
digits_printable (c ∷ ds) h = let p = and_parts (is_digit c) (list_all is_digit ds) h in ap₂ (λ a b. a && b) (digit_printable c p.0) (digits_printable ds p.1)

decimal_printable : (n : ℕ) → n < 2 ^ 64 → IsPrintable (decimal n)
decimal_printable n small = digits_printable (decimal n) (digits_decimal own n small)

escaped_printable : (c : ℕ) → is_printable c ≡ true → IsPrintable (escaped c)
escaped_printable c h = go ((c == 39) || (c == 92))
  where
    go : (b : Bool) → IsPrintable (if b then 92 ∷ c ∷ [] else c ∷ [])
    go true = ap (λ b. b && true) h
    go false = ap (λ b. b && true) h

characters_printable : (w : List ℕ) → IsPrintable w → IsPrintable (flat_map escaped w)
characters_printable [] h = refl
characters_printable (c ∷ w) h =
    let p = and_parts (is_printable c) (list_all is_printable w) h in both (escaped c) (flat_map escaped w) (escaped_printable c p.0) (characters_printable w p.1)

name_printable : (w : List ℕ) → is_printable_name w ≡ true → IsPrintable (name_text w)
name_printable [] h = cc
name_printable (c ∷ cs) h = go (is_lower_word (c ∷ cs))
  where
    go : (b : Bool) → IsPrintable (if b then c ∷ cs else quoted (c ∷ cs))
    go true = h
    go false = both (flat_map escaped (c ∷ cs)) (codes "'") (characters_printable (c ∷ cs) h) refl

type_printable : (a : TextTypeTree) → IsPrintableType a → IsPrintable (text_of_type a)
type_printable formula h = refl
type_printable individual h = refl
type_printable (named w) h = name_printable w h
type_printable (arrow a b) h =
    both (text_of_type a) (codes ">" ++ (text_of_type b ++ codes ")")) (type_printable a h.0) (both (text_of_type b) (codes ")") (type_printable b h.1) refl)

constant_printable : (c : ConstantTree) → IsConstant c → IsPrintable (constant_text c)
constant_printable (name w) h = name_printable w h
constant_printable (witness k) h = decimal_printable k (omega (arith, h))
constant_printable falsity h = refl
constant_printable negation h = refl
constant_printable implication h = refl
constant_printable (all a) h = both (text_of_type a) (codes "]") (type_printable a h) refl
constant_printable (equality a) h = both (text_of_type a) (codes "]") (type_printable a h) refl
constant_printable (choice a) h = both (text_of_type a) (codes "]") (type_printable a h) refl
constant_printable (description a) h = both (text_of_type a) (codes "]") (type_printable a h) refl

mutual
  term_printable : (t : TermTree) → IsTerm t → IsPrintable (term_text t)
  term_printable (bound k) h = decimal_printable k (omega (arith, h))
  term_printable (constant c) h = constant_printable c h
  term_printable (lam a s) h = both (text_of_type a) (codes "." ++ term_text s) (type_printable a h.0) (term_printable s h.1)
  term_printable (app s u) h =
      both (spine_text s) (codes " " ++ (term_text u ++ codes ")")) (spine_printable s h.0) (both (term_text u) (codes ")") (term_printable u h.1) refl)

  spine_printable : (t : TermTree) → IsSpine t → IsPrintable (spine_text t)
  spine_printable (bound k) h = decimal_printable k (omega (arith, h))
  spine_printable (constant c) h = constant_printable c h
  spine_printable (lam a s) h = absurd h
  spine_printable (app s u) h = both (spine_text s) (codes " " ++ term_text u) (spine_printable s h.0) (term_printable u h.1)

literal_printable : (l : LiteralTree) → IsLiteralText l → IsPrintable (literal_text l)
literal_printable l h = go l.positive (term_printable l.atom h.atom.is_term)
  where
    go : (b : Bool) → IsPrintable (term_text l.atom) → IsPrintable (sign_text b ++ term_text l.atom)
    go true t = t
    go false t = t

later_printable : {X : Type 0} (text : X → List ℕ) (P : X → Type 0) (xs : List X) → ((x : X) → P x → IsPrintable (text x)) → AllByRecursion P xs → IsPrintable (after_commas (map text xs))
later_printable text P [] each h = refl
later_printable text P (x ∷ xs) each h = both (text x) (after_commas (map text xs)) (each x h.0) (later_printable text P xs each h.1)

items_printable : {X : Type 0} (text : X → List ℕ) (P : X → Type 0) (xs : List X) → ((x : X) → P x → IsPrintable (text x)) → AllByRecursion P xs → IsPrintable (comma_separated (map text xs))
items_printable text P [] each h = refl
items_printable text P (x ∷ xs) each h = both (text x) (after_commas (map text xs)) (each x h.0) (later_printable text P xs each h.1)

child_printable : (c : Child) → IsChild c → IsPrintable (child_text c)
child_printable Closed h = refl
child_printable (Numbered k) h = decimal_printable k h

one_place_printable : (r : OnePlace) → IsPrintable (one_place_name r)
one_place_printable False = refl
one_place_printable r = refl

two_places_printable : (r : TwoPlaces) → IsPrintable (two_places_name r)
two_places_printable Close = refl
two_places_printable r = refl

predicate_printable : (r : OfPredicate) → IsPrintable (predicate_name r)
predicate_printable Cho = refl
predicate_printable r = refl

rule_printable : (r : RuleUse ℕ TermTree LiteralTree) → IsRule r → IsPrintable (rule_text r)
rule_printable (AtOne r i) h =
    both (one_place_name r) (codes "(" ++ (decimal i ++ codes ")")) (one_place_printable r) (both (decimal i) (codes ")") (decimal_printable i h) refl)
rule_printable (AtTwo r i j) h =
    both (two_places_name r) (codes "(" ++ (decimal i ++ (codes "," ++ (decimal j ++ codes ")")))) (two_places_printable r)
    (both (decimal i) (codes "," ++ (decimal j ++ codes ")")) (decimal_printable i h.0) (both (decimal j) (codes ")") (decimal_printable j h.1) refl))
rule_printable (AllPos i u) h =
    both (decimal i) (codes ";" ++ (term_text u ++ codes ")")) (decimal_printable i h.0) (both (term_text u) (codes ")") (term_printable u h.1.is_term) refl)
rule_printable (WithPredicate r f) h =
    both (predicate_name r) (codes "(" ++ (term_text f ++ codes ")")) (predicate_printable r) (both (term_text f) (codes ")") (term_printable f h.is_term) refl)
rule_printable (Cut l) h = both (literal_text l) (codes ")") (literal_printable l h) refl

row_printable : (k : ℕ) (t : TermTree) → k < 2 ^ 64 → IsWithinLimits t → IsPrintable (row_text k t)
row_printable k t small h = both (decimal k) (codes " " ++ term_text t) (decimal_printable k small) (term_printable t h.is_term)

line_printable : (k : ℕ) (l : LineTree) → k < 2 ^ 64 → IsLine l → IsPrintable (line_text k l)
line_printable k l small h =
    let children = codes "] [" ++ (children_text l.children ++ codes "]") in
    let branch = codes " [" ++ (branch_text l.branch ++ children) in
    both (decimal k) (codes ": " ++ (rule_text l.rule ++ branch)) (decimal_printable k small)
    (both (rule_text l.rule) branch (rule_printable l.rule h.rule)
    (both (branch_text l.branch) children (items_printable literal_text IsLiteralText l.branch literal_printable h.branch)
    (both (children_text l.children) (codes "]") (items_printable child_text IsChild l.children child_printable h.children) refl)))

-- no character is a line feed
printable_one_line : (bytes : List ℕ) → IsPrintable bytes → is_one_line bytes ≡ true
printable_one_line [] h = refl
printable_one_line (c ∷ cs) h =
    let p = and_parts (is_printable c) (list_all is_printable cs) h in
    ap₂ (λ a b. a && b) (not_from_false (c == 10) (go (c == 10) refl p.0)) (printable_one_line cs p.1)
  where
    go : (b : Bool) → (c == 10) ≡ b → is_printable c ≡ true → (c == 10) ≡ false
    go true e k = absurd (grind (arith, nat_tests, e, k))
    go false e k = e

rows_are_lines : (k : ℕ) (rows : List TermTree) → k + length rows ≤ 2 ^ 32 → AllByRecursion IsWithinLimits rows → AreLines (row_texts k rows)
rows_are_lines k [] small h = tt
rows_are_lines k (t ∷ rows) small h =
    (printable_one_line (row_text k t) (row_printable k t (omega (arith, small)) h.0), rows_are_lines (suc k) rows (omega (arith, small)) h.1)

lines_are_lines : (k : ℕ) (lines : List LineTree) → k + length lines ≤ 2 ^ 64 → AllByRecursion IsLine lines → AreLines (line_texts k lines)
lines_are_lines k [] small h = tt
lines_are_lines k (l ∷ lines) small h =
    (printable_one_line (line_text k l) (line_printable k l (omega (arith, small)) h.0), lines_are_lines (suc k) lines (omega (arith, small)) h.1)

pub AreLines-append : (ls ms : List (List ℕ)) → AreLines ls → AreLines ms → AreLines (ls ++ ms)
AreLines-append [] ms h k = k
AreLines-append (l ∷ ls) ms h k = (h.0, AreLines-append ls ms h.1 k)

version_is_line : (names : List (List ℕ)) → is_one_line (version_text names) ≡ true
version_is_line [] = refl
version_is_line (w ∷ names) = refl

definitions_are_lines : (names : List (List ℕ)) → AllByRecursion IsTextName names → AreLines (map definition_text names)
definitions_are_lines [] h = tt
definitions_are_lines (w ∷ names) h = (printable_one_line (definition_text w) (name_printable w h.0), definitions_are_lines names h.1)

pub text_lines-are_lines : (r : RefutationTree) → HasText r → AreLines (text_lines r)
text_lines-are_lines r h =
    let rows = rows_are_lines 0 r.rows (let n = h.row_numbers in omega (arith, n)) h.rows in
    let lines = lines_are_lines 0 r.lines (let n = h.line_numbers in omega (arith, n)) h.lines in (
      version_is_line r.names,
      AreLines-append (map definition_text r.names) (row_texts 0 r.rows ++ line_texts 0 r.lines) (definitions_are_lines r.names h.names) (AreLines-append (row_texts 0 r.rows) (line_texts 0 r.lines) rows lines),
    )
