-- The text of lines is that of their pieces.
use Rattle.std.proofs.Common.{◌≡◌, ◌<◌, ◌≤◌, ℕ, Bool, zero, suc, length, List, [], ◌∷◌, ◌++◌, map, slice_get, Some, codes, decimal, refl, sym, ap, subst, ◌∙◌, append_assoc, arith}
use Rattle.tableau_calculus.specs.Literals.{Literal}
use Rattle.tableau_calculus.specs.Witnesses.{Row}
use Rattle.tableau_calculus.specs.declared.refutation.Child.{Child}
use Rattle.tableau_calculus.specs.declared.refutation.Line.{Line}
use Rattle.thf_names.specs.Names.{name_text}
use Rattle.refute_print.specs.Trees.{RefutationTree}
use Rattle.stt_core.specs.Lambda.{Lambda}
use Rattle.refute_print.specs.Text.{sign_text, version_text, definition_text, text_lines, term_text, literal_text, child_text, rule_text, after_commas, comma_separated, branch_text, children_text, row_texts, line_texts, as_bytes}
use Rattle.refute_print.specs.Named.{Names, name_numbered, ArePlaces, named_term, named_literal, named_rule, named_line, HasNames, HaveNames, HasLineNames, RowsHaveNames, LinesHaveNames}
use Rattle.refute_print.specs.Internal.Pieces.{version_line, definition_line, comma_before, literal_piece, child_piece, row_line, line_line}
use Rattle.refute_print.proofs.Lists.{all_texts}

-- the line of the version, without definitions and with some
pub version_line-none : {X : Type 0} (f : X → List ℕ) (xs : List X) → length xs < 1 → codes "version 1\n" ≡ version_line (map f xs)
version_line-none f [] h = refl
version_line-none f (x ∷ xs) h = absurd (omega (arith, h))

pub version_line-some : {X : Type 0} (f : X → List ℕ) (xs : List X) → 1 ≤ length xs → codes "version 2\n" ≡ version_line (map f xs)
version_line-some f [] h = absurd (omega (arith, h))
version_line-some f (x ∷ xs) h = refl

-- a text before a number and one behind it, and what follows
pub numbered_before : (a d b rest : List ℕ) → (a ++ (d ++ b)) ++ rest ≡ a ++ (d ++ (b ++ rest))
numbered_before a d b rest = append_assoc a (d ++ b) rest ∙ ap (λ x. a ++ x) (append_assoc d b rest)

-- a rule's name with its parenthesis, and what follows
pub behind_mark : (mark name rest : List ℕ) → mark ≡ name ++ codes "(" → mark ++ rest ≡ name ++ (codes "(" ++ rest)
behind_mark mark name rest is = ap (λ x. x ++ rest) is ∙ append_assoc name (codes "(") rest

-- the literal of a cut
pub cut_text : (names : Names) (positive : Bool) (atom : Lambda) → (codes "Cut(" ++ sign_text positive) ++ (term_text (named_term names atom) ++ codes ")") ≡ codes "Cut(" ++ ((sign_text positive ++ term_text (named_term names atom)) ++ codes ")")
cut_text names positive atom = ap (λ x. codes "Cut(" ++ x) (sym (append_assoc (sign_text positive) (term_text (named_term names atom)) (codes ")")))

later_members : {X : Type 0} (f : X → List ℕ) (k : ℕ) (xs : List X) → all_texts (λ i x. comma_before i ++ f x) (suc k) xs ≡ after_commas (map f xs)
later_members f k [] = refl
later_members f k (x ∷ xs) =
    append_assoc (codes ",") (f x) (all_texts (λ i y. comma_before i ++ f y) (suc (suc k)) xs)
    ∙ ap (λ t. codes "," ++ (f x ++ t)) (later_members f (suc k) xs)

members : {X : Type 0} (f : X → List ℕ) (xs : List X) → all_texts (λ i x. comma_before i ++ f x) 0 xs ≡ comma_separated (map f xs)
members f [] = refl
members f (x ∷ xs) = ap (λ t. f x ++ t) (later_members f 0 xs)

map-map : {X Y Z : Type 0} (f : Y → Z) (g : X → Y) (xs : List X) → map (λ x. f (g x)) xs ≡ map f (map g xs)
map-map f g [] = refl
map-map f g (x ∷ xs) = ap (λ ys. f (g x) ∷ ys) (map-map f g xs)

pub branch_members : (names : Names) (branch : List Literal) → all_texts (λ i l. literal_piece names i l) 0 branch ≡ branch_text (map (named_literal names) branch)
branch_members names branch =
    members (λ l. literal_text (named_literal names l)) branch ∙ ap comma_separated (map-map literal_text (named_literal names) branch)

pub children_members : (children : List Child) → all_texts (λ i c. child_piece i c) 0 children ≡ children_text children
children_members children = members child_text children

pub row_members : (names : Names) (k : ℕ) (rows : List Row) → all_texts (λ i row. row_line names i row) k rows ≡ as_bytes (row_texts k (map (λ row. named_term names row.predicate) rows))
row_members names k [] = refl
row_members names k (row ∷ rows) =
    let f = term_text (named_term names row.predicate) in
    let more = as_bytes (row_texts (suc k) (map (λ r. named_term names r.predicate) rows)) in
    ap (λ t. row_line names k row ++ t) (row_members names (suc k) rows) ∙ regroup (decimal k) f more
  where
    regroup : (d f more : List ℕ) → (codes "w" ++ (d ++ (codes " " ++ (f ++ codes "\n")))) ++ more ≡ (codes "w" ++ (d ++ (codes " " ++ f))) ++ (10 ∷ more)
    regroup d f more = simp append_assoc

pub line_members : (names : Names) (k : ℕ) (lines : List Line) → all_texts (λ i line. line_line names i line) k lines ≡ as_bytes (line_texts k (map (named_line names) lines))
line_members names k [] = refl
line_members names k (line ∷ lines) =
    let more = as_bytes (line_texts (suc k) (map (named_line names) lines)) in
    ap (λ t. line_line names k line ++ t) (line_members names (suc k) lines)
    ∙ regroup (decimal k) (rule_text (named_rule names line.rule)) (branch_text (map (named_literal names) line.branch)) (children_text line.children) more
  where
    regroup : (d r b c more : List ℕ) → (d ++ (codes ": " ++ (r ++ (codes " [" ++ (b ++ (codes "] [" ++ (c ++ codes "]\n"))))))) ++ more ≡ (d ++ (codes ": " ++ (r ++ (codes " [" ++ (b ++ (codes "] [" ++ (c ++ codes "]"))))))) ++ (10 ∷ more)
    regroup d r b c more = simp append_assoc

pub as_bytes-append : (xs ys : List (List ℕ)) → as_bytes (xs ++ ys) ≡ as_bytes xs ++ as_bytes ys
as_bytes-append [] ys = refl
as_bytes-append (x ∷ xs) ys = ap (λ t. x ++ (10 ∷ t)) (as_bytes-append xs ys) ∙ sym (append_assoc x (10 ∷ as_bytes xs) (as_bytes ys))

pub definition_members : (names : Names) (n : ℕ) (taken : List ℕ) → all_texts (λ i k. definition_line names k) n taken ≡ as_bytes (map definition_text (map (name_numbered names.constants) taken))
definition_members names n [] = refl
definition_members names n (k ∷ taken) =
    let w = name_text (name_numbered names.constants k) in
    let more = as_bytes (map definition_text (map (name_numbered names.constants) taken)) in
    ap (λ t. definition_line names k ++ t) (definition_members names (suc n) taken) ∙ regroup w more
  where
    regroup : (w more : List ℕ) → (codes "d " ++ (w ++ codes "\n")) ++ more ≡ (codes "d " ++ w) ++ (10 ∷ more)
    regroup w more = simp append_assoc

-- the lines of a text are its four parts
pub text_parts : (r : RefutationTree) → version_line r.names ++ (as_bytes (map definition_text r.names) ++ (as_bytes (row_texts 0 r.rows) ++ as_bytes (line_texts 0 r.lines))) ≡ as_bytes (text_lines r)
text_parts r =
    append_assoc (version_text r.names) (codes "\n") (as_bytes (map definition_text r.names) ++ (as_bytes (row_texts 0 r.rows) ++ as_bytes (line_texts 0 r.lines)))
    ∙ ap (λ t. version_text r.names ++ (10 ∷ t)) (ap (λ t. as_bytes (map definition_text r.names) ++ t) (sym (as_bytes-append (row_texts 0 r.rows) (line_texts 0 r.lines))) ∙ sym (as_bytes-append (map definition_text r.names) (row_texts 0 r.rows ++ line_texts 0 r.lines)))

pub place_there : (names : Names) (taken : List ℕ) (i k : ℕ) → slice_get taken i ≡ Some k → ArePlaces names taken → k < length names.constants
place_there names [] i k e h = cc
place_there names (j ∷ taken) zero k e h = let q : j ≡ k = cc in subst (λ x. x < length names.constants) q h.0
place_there names (j ∷ taken) (suc i) k e h = place_there names taken i k e h.1

pub literal_named : (names : Names) (ls : List Literal) (i : ℕ) (l : Literal) → slice_get ls i ≡ Some l → HaveNames names ls → HasNames names l.atom
literal_named names [] i l e h = cc
literal_named names (k ∷ ls) zero l e h = let q : k ≡ l = cc in subst (λ x. HasNames names x.atom) q h.0
literal_named names (k ∷ ls) (suc i) l e h = literal_named names ls i l e h.1

pub row_named : (names : Names) (rows : List Row) (i : ℕ) (row : Row) → slice_get rows i ≡ Some row → RowsHaveNames names rows → HasNames names row.predicate
row_named names [] i row e h = cc
row_named names (r ∷ rows) zero row e h = let q : r ≡ row = cc in subst (λ x. HasNames names x.predicate) q h.0
row_named names (r ∷ rows) (suc i) row e h = row_named names rows i row e h.1

pub line_named : (names : Names) (lines : List Line) (i : ℕ) (line : Line) → slice_get lines i ≡ Some line → LinesHaveNames names lines → HasLineNames names line
line_named names [] i line e h = cc
line_named names (l ∷ lines) zero line e h = let q : l ≡ line = cc in subst (HasLineNames names) q h.0
line_named names (l ∷ lines) (suc i) line e h = line_named names lines i line e h.1
