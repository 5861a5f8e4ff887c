-- The texts of literals, children and lists of them are read back.
use Rattle.std.proofs.Common.{◌≡◌, ℕ, ◌^◌, ◌<◌, ◌&&◌, nat_eq, Bool, true, false, List, [], ◌∷◌, ◌++◌, Option, Some, None, length, drop, map, codes, decimal, refl, ap, ◌∙◌, append_assoc, arith, if◌then◌else◌}
use Rattle.std.specs.List.{AllByRecursion, list_all, starts_with}
use Rattle.std.proofs.lemmas.Bool.{and_parts}
use Rattle.std.proofs.lemmas.Bool.Decides.{nat_tests}
use Rattle.std.proofs.lemmas.Fmt.{decimal_nonempty, digits_decimal}
use Rattle.tableau_calculus.specs.declared.refutation.Child.{Child}
use Rattle.tableau_calculus.specs.declared.refutation.Child.TheVariants.{Closed, Line as Numbered}
use Rattle.refute_print.specs.Trees.{TermTree, LiteralTree}
use Rattle.refute_print.specs.Text.{term_text, sign_text, literal_text, child_text, after_commas, branch_text, children_text}
use Rattle.refute_print.specs.Limits.{is_negated_text, greatest_depth, IsWithinLimits, IsLiteralText, IsChild}
use Rattle.refute_text.specs.Internal.Reader.{behind_text, number_at, with_items, repeated_at}
use Rattle.outside.specs.Decimal.{is_digit}
use Rattle.refute_text.specs.Internal.TermReader.{term_text_at}
use Rattle.refute_text.specs.Internal.LineReader.{read_literal, unsigned_at, signed_text_at, literal_text_at, child_at, some_items_at, items_at}
use Rattle.refute_text.proofs.Numbers.{own}
use Rattle.refute_text.proofs.Inversions.{found}
use Rattle.refute_text.proofs.Answers.{bind_gives, front_skips}
use Rattle.refute_text.proofs.NameBack.{stops, number_at-decimal}
use Rattle.refute_text.proofs.TermBack.{term_at-text}
use Rattle.refute_text.proofs.RepeatsBack.{AreReadBack, marked, more_stop, length-marked, repeated_at-texts}

pub within_back : (t : TermTree) (rest : List ℕ) → IsWithinLimits t → stops rest ≡ true → term_text_at greatest_depth (term_text t ++ rest) ≡ Some (t, rest)
within_back t rest h stop = term_at-text greatest_depth t rest h.is_term h.within stop

signed_back : (positive : Bool) (t : TermTree) (rest : List ℕ) → IsWithinLimits t → is_negated_text t ≡ false → stops rest ≡ true → signed_text_at positive (term_text t ++ rest) ≡ found (read_literal positive t) rest
signed_back positive t rest h n stop =
    bind_gives (term_text_at greatest_depth (term_text t ++ rest)) (λ u. unsigned_at positive u.0 u.1) (t, rest) (read_literal positive t, rest) (within_back t rest h stop)
    (ap (λ b. if b then None else found (read_literal positive t) rest) n)

pub literal_at-text : (l : LiteralTree) (rest : List ℕ) → IsLiteralText l → stops rest ≡ true → literal_text_at (literal_text l ++ rest) ≡ Some (l, rest)
unfolding literal_text_at
literal_at-text l rest h stop = go l.positive
  where
    go : (b : Bool) → literal_text_at ((sign_text b ++ term_text l.atom) ++ rest) ≡ found (read_literal b l.atom) rest
    go true = signed_back true l.atom rest h.atom h.unsigned stop
    go false = signed_back false l.atom rest h.atom h.unsigned stop

-- a byte that is no digit
starts_with-digits : (x : ℕ) (t ds rest : List ℕ) → is_digit x ≡ false → list_all is_digit ds ≡ true → 0 < length ds → starts_with nat_eq (ds ++ rest) (x ∷ t) ≡ false
starts_with-digits x t [] rest h k some = absurd (omega arith)
starts_with-digits x t (c ∷ ds) rest h k some =
    ap (λ b. b && starts_with nat_eq (ds ++ rest) t) (go (nat_eq x c) refl (and_parts (is_digit c) (list_all is_digit ds) k).0)
  where
    go : (b : Bool) → nat_eq x c ≡ b → is_digit c ≡ true → nat_eq x c ≡ false
    go true e d = absurd (grind (arith, nat_tests, e, d, h))
    go false e d = e

pub starts_with-decimal : (x : ℕ) (t : List ℕ) (n : ℕ) (rest : List ℕ) → is_digit x ≡ false → n < 2 ^ 64 → starts_with nat_eq (decimal n ++ rest) (x ∷ t) ≡ false
starts_with-decimal x t n rest h small = starts_with-digits x t (decimal n) rest h (digits_decimal own n small) (decimal_nonempty n small)

behind-decimal : (x : ℕ) (t : List ℕ) (n : ℕ) (rest : List ℕ) → is_digit x ≡ false → n < 2 ^ 64 → behind_text (x ∷ t) (decimal n ++ rest) ≡ None
behind-decimal x t n rest h small = ap (λ b. if b then Some (drop (length (x ∷ t)) (decimal n ++ rest)) else None) (starts_with-decimal x t n rest h small)

pub child_at-text : (c : Child) (rest : List ℕ) → IsChild c → stops rest ≡ true → child_at (child_text c ++ rest) ≡ Some (c, rest)
unfolding child_at
child_at-text Closed rest h stop = refl
child_at-text (Numbered k) rest h stop =
    front_skips (behind_text (codes "x") (decimal k ++ rest)) _ _ (Numbered k, rest) (behind-decimal 120 [] k rest refl h)
    (bind_gives (number_at (2 ^ 64) (decimal k ++ rest)) (λ n. found (Numbered n.0) n.1) (k, rest) (Numbered k, rest) (number_at-decimal (2 ^ 64) k rest h (omega arith) stop) refl)

-- lists
after_commas-marked : {X : Type 0} (text : X → List ℕ) (xs : List X) → after_commas (map text xs) ≡ marked (codes ",") text xs
after_commas-marked text [] = refl
after_commas-marked text (x ∷ xs) = ap (λ t. codes "," ++ (text x ++ t)) (after_commas-marked text xs)

items_back : {X : Type 0} (item : List ℕ → Option (X × List ℕ)) (text : X → List ℕ) (x : X) (xs : List X) (rest : List ℕ) → ((r : List ℕ) → behind_text (codes "]") (text x ++ r) ≡ None) → AreReadBack item text (x ∷ xs) → items_at item ((text x ++ after_commas (map text xs)) ++ (codes "]" ++ rest)) ≡ found (x ∷ xs) rest
items_back item text x xs rest opens back =
    let end = codes "]" ++ rest in
    let more = marked (codes ",") text xs ++ end in
    let bytes = text x ++ more in
    ap (items_at item) (ap (λ t. (text x ++ t) ++ end) (after_commas-marked text xs) ∙ append_assoc (text x) (marked (codes ",") text xs) end)
    ∙ front_skips (behind_text (codes "]") bytes) _ (some_items_at item bytes) (x ∷ xs, rest) (opens more)
    (bind_gives (item bytes) _ (x, more) (x ∷ xs, rest) (back.0 more (more_stop 44 [] text xs end refl refl))
    (bind_gives (with_items (x ∷ []) (repeated_at (codes ",") item (length more) more)) _ (x ∷ xs, end) (x ∷ xs, rest)
    (ap (with_items (x ∷ [])) (repeated_at-texts 44 [] item text (length more) xs end refl back.1 (length-marked 44 [] text xs end) refl refl)) refl))

literals_back : (branch : List LiteralTree) → AllByRecursion IsLiteralText branch → AreReadBack literal_text_at literal_text branch
literals_back [] h = tt
literals_back (l ∷ branch) h = (λ rest stop. literal_at-text l rest h.0 stop, literals_back branch h.1)

signs_open : (l : LiteralTree) (r : List ℕ) → behind_text (codes "]") (literal_text l ++ r) ≡ None
signs_open l r = go l.positive
  where
    go : (b : Bool) → behind_text (codes "]") ((sign_text b ++ term_text l.atom) ++ r) ≡ None
    go true = refl
    go false = refl

pub items_at-branch : (branch : List LiteralTree) (rest : List ℕ) → AllByRecursion IsLiteralText branch → items_at literal_text_at (branch_text branch ++ (codes "]" ++ rest)) ≡ Some (branch, rest)
items_at-branch [] rest h = refl
items_at-branch (l ∷ branch) rest h = items_back literal_text_at literal_text l branch rest (signs_open l) (literals_back (l ∷ branch) h)

children_back : (children : List Child) → AllByRecursion IsChild children → AreReadBack child_at child_text children
children_back [] h = tt
children_back (c ∷ children) h = (λ rest stop. child_at-text c rest h.0 stop, children_back children h.1)

child_opens : (c : Child) (r : List ℕ) → IsChild c → behind_text (codes "]") (child_text c ++ r) ≡ None
child_opens Closed r h = refl
child_opens (Numbered k) r h = behind-decimal 93 [] k r refl h

pub items_at-children : (children : List Child) (rest : List ℕ) → AllByRecursion IsChild children → items_at child_at (children_text children ++ (codes "]" ++ rest)) ≡ Some (children, rest)
items_at-children [] rest h = refl
items_at-children (c ∷ children) rest h = items_back child_at child_text c children rest (λ r. child_opens c r h.0) (children_back (c ∷ children) h)
