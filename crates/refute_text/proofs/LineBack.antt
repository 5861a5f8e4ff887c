-- The texts of rules, rows and lines are read back.
use Rattle.std.proofs.Common.{◌≡◌, ℕ, ◌^◌, ◌<◌, List, [], ◌++◌, Option, Some, None, codes, decimal, refl, sym, ap, ◌∙◌, append_assoc, append-nil, arith, if◌then◌else◌}
use Rattle.std.proofs.lemmas.Bool.{eq-eqb}
use Rattle.tableau_calculus.specs.declared.refutation.Child.{Child}
use Rattle.tableau_calculus.specs.declared.rule_use.OnePlace.{OnePlace}
use Rattle.tableau_calculus.specs.declared.rule_use.OnePlace.TheVariants.{False}
use Rattle.tableau_calculus.specs.declared.rule_use.TwoPlaces.{TwoPlaces}
use Rattle.tableau_calculus.specs.declared.rule_use.TwoPlaces.TheVariants.{Close}
use Rattle.tableau_calculus.specs.declared.rule_use.OfPredicate.{OfPredicate}
use Rattle.tableau_calculus.specs.declared.rule_use.OfPredicate.TheVariants.{Cho}
use Rattle.tableau_calculus.specs.declared.rule_use.RuleUse.{RuleUse}
use Rattle.tableau_calculus.specs.declared.rule_use.RuleUse.TheVariants.{AtOne, AtTwo, AllPos, WithPredicate, Cut}
use Rattle.refute_print.specs.Trees.{TermTree, LiteralTree, LineTree}
use Rattle.refute_print.specs.Text.{term_text, literal_text, rule_text, row_text, branch_text, children_text, line_text}
use Rattle.refute_print.specs.Limits.{greatest_depth, IsWithinLimits, IsLiteralText, IsRule, IsLine}
use Rattle.refute_text.specs.Internal.Reader.{number_at}
use Rattle.refute_text.specs.Internal.TermReader.{term_text_at}
use Rattle.refute_text.specs.Internal.LineReader.{literal_text_at, child_at, items_at, place_text_at, one_place_at, places_at, two_places_at, instance_at, predicate_at, cut_at, one_place_named, two_places_named, predicate_named, rule_at, where_number, row_at, children_at, behind_rule_at, lists_at, line_at}
use Rattle.refute_text.proofs.Inversions.{found}
use Rattle.refute_text.proofs.Answers.{bind_gives}
use Rattle.refute_text.proofs.NameBack.{number_at-decimal}
use Rattle.refute_text.proofs.LiteralBack.{within_back, literal_at-text, items_at-branch, items_at-children}

place_back : (i : ℕ) (rest : List ℕ) → i < 2 ^ 64 → place_text_at ((decimal i ++ codes ")") ++ rest) ≡ found i rest
unfolding place_text_at
place_back i rest small =
    let end = codes ")" ++ rest in
    ap place_text_at (append_assoc (decimal i) (codes ")") rest)
    ∙ bind_gives (number_at (2 ^ 64) (decimal i ++ end)) _ (i, end) (i, rest) (number_at-decimal (2 ^ 64) i end small (omega arith) refl) refl

one_place_back : (rule : OnePlace) (i : ℕ) (rest : List ℕ) → i < 2 ^ 64 → one_place_at rule ((decimal i ++ codes ")") ++ rest) ≡ found (AtOne rule i) rest
one_place_back rule i rest small =
    bind_gives (place_text_at ((decimal i ++ codes ")") ++ rest)) (λ p. found (AtOne rule p.0) p.1) (i, rest) (AtOne rule i, rest) (place_back i rest small) refl

two_places_back : (rule : TwoPlaces) (i j : ℕ) (rest : List ℕ) → i < 2 ^ 64 → j < 2 ^ 64 → two_places_at rule ((decimal i ++ (codes "," ++ (decimal j ++ codes ")"))) ++ rest) ≡ found (AtTwo rule i j) rest
two_places_back rule i j rest small small' =
    let second = (decimal j ++ codes ")") ++ rest in
    ap (two_places_at rule) (append_assoc (decimal i) (codes "," ++ (decimal j ++ codes ")")) rest)
    ∙ bind_gives (places_at (decimal i ++ (codes "," ++ second))) (λ p. found (AtTwo rule p.0.0 p.0.1) p.1) ((i, j), rest) (AtTwo rule i j, rest)
    (bind_gives (number_at (2 ^ 64) (decimal i ++ (codes "," ++ second))) _ (i, codes "," ++ second) ((i, j), rest) (number_at-decimal (2 ^ 64) i (codes "," ++ second) small (omega arith) refl)
    (bind_gives (place_text_at second) (λ p. found (i, p.0) p.1) (j, rest) ((i, j), rest) (place_back j rest small') refl)) refl

instance_back : (i : ℕ) (u : TermTree) (rest : List ℕ) → i < 2 ^ 64 → IsWithinLimits u → instance_at ((decimal i ++ (codes ";" ++ (term_text u ++ codes ")"))) ++ rest) ≡ found (AllPos i u) rest
instance_back i u rest small within =
    let end = codes ")" ++ rest in
    let second = codes ";" ++ (term_text u ++ end) in
    ap instance_at (regroup (decimal i) (term_text u) rest)
    ∙ bind_gives (number_at (2 ^ 64) (decimal i ++ second)) _ (i, second) (AllPos i u, rest) (number_at-decimal (2 ^ 64) i second small (omega arith) refl)
    (bind_gives (term_text_at greatest_depth (term_text u ++ end)) _ (u, end) (AllPos i u, rest) (within_back u end within refl) refl)
  where
    regroup : (i u r : List ℕ) → (i ++ (codes ";" ++ (u ++ codes ")"))) ++ r ≡ i ++ (codes ";" ++ (u ++ (codes ")" ++ r)))
    regroup i u r = simp append_assoc

predicate_back : (name : OfPredicate) (f : TermTree) (rest : List ℕ) → IsWithinLimits f → predicate_at name ((term_text f ++ codes ")") ++ rest) ≡ found (WithPredicate name f) rest
predicate_back name f rest within =
    let end = codes ")" ++ rest in
    ap (predicate_at name) (append_assoc (term_text f) (codes ")") rest)
    ∙ bind_gives (term_text_at greatest_depth (term_text f ++ end)) _ (f, end) (WithPredicate name f, rest) (within_back f end within refl) refl

cut_back : (l : LiteralTree) (rest : List ℕ) → IsLiteralText l → cut_at ((literal_text l ++ codes ")") ++ rest) ≡ found (Cut l) rest
cut_back l rest is =
    let end = codes ")" ++ rest in
    ap cut_at (append_assoc (literal_text l) (codes ")") rest)
    ∙ bind_gives (literal_text_at (literal_text l ++ end)) _ (l, end) (Cut l, rest) (literal_at-text l end is refl) refl

pub rule_at-text : (r : RuleUse ℕ TermTree LiteralTree) (rest : List ℕ) → IsRule r → rule_at (rule_text r ++ rest) ≡ Some (r, rest)
unfolding rule_at one_place_named two_places_named predicate_named
rule_at-text (AtOne False i) rest h = one_place_back False i rest h
rule_at-text (AtOne r i) rest h = one_place_back r i rest h
rule_at-text (AtTwo Close i j) rest h = two_places_back Close i j rest h.0 h.1
rule_at-text (AtTwo r i j) rest h = two_places_back r i j rest h.0 h.1
rule_at-text (AllPos i u) rest h = instance_back i u rest h.0 h.1
rule_at-text (WithPredicate Cho f) rest h = predicate_back Cho f rest h
rule_at-text (WithPredicate r f) rest h = predicate_back r f rest h
rule_at-text (Cut l) rest h = cut_back l rest h

number_back : (k : ℕ) (rest : List ℕ) (o : Option (ℕ × List ℕ)) → o ≡ found k rest → where_number k o ≡ Some rest
number_back k rest o e = ap (where_number k) e ∙ ap (λ b. if b then Some rest else None) (eq-eqb k k refl)

pub row_at-text : (k : ℕ) (t : TermTree) → k < 2 ^ 32 → IsWithinLimits t → row_at k (row_text k t) ≡ Some t
unfolding row_at
row_at-text k t small within =
    let end = codes " " ++ term_text t in
    bind_gives (where_number k (number_at (2 ^ 32) (decimal k ++ end))) _ end t (number_back k end (number_at (2 ^ 32) (decimal k ++ end)) (number_at-decimal (2 ^ 32) k end small (omega arith) refl))
    (bind_gives (term_text_at greatest_depth (term_text t)) _ (t, []) t (ap (term_text_at greatest_depth) (sym (append-nil (term_text t))) ∙ within_back t [] within refl) refl)

behind_rule_back : (line : LineTree) → IsLine line → behind_rule_at (codes " [" ++ (branch_text line.branch ++ (codes "] [" ++ (children_text line.children ++ codes "]")))) ≡ Some (line.branch, line.children)
unfolding behind_rule_at
behind_rule_back line is =
    let end = codes " [" ++ (children_text line.children ++ codes "]") in
    let both : List LiteralTree × List Child = (line.branch, line.children) in
    bind_gives (items_at literal_text_at (branch_text line.branch ++ (codes "]" ++ end))) _ (line.branch, end) both (items_at-branch line.branch end is.branch)
    (bind_gives (children_at end) _ line.children both
    (bind_gives (items_at child_at (children_text line.children ++ codes "]")) _ (line.children, []) line.children (items_at-children line.children [] is.children) refl) refl)

lists_back : (line : LineTree) → IsLine line → lists_at line.rule (codes " [" ++ (branch_text line.branch ++ (codes "] [" ++ (children_text line.children ++ codes "]")))) ≡ Some line
unfolding lists_at
lists_back line is =
    bind_gives (behind_rule_at (codes " [" ++ (branch_text line.branch ++ (codes "] [" ++ (children_text line.children ++ codes "]"))))) _ (line.branch, line.children) line (behind_rule_back line is) refl

pub line_at-text : (k : ℕ) (line : LineTree) → k < 2 ^ 64 → IsLine line → line_at k (line_text k line) ≡ Some line
unfolding line_at
line_at-text k line small is =
    let lists = codes " [" ++ (branch_text line.branch ++ (codes "] [" ++ (children_text line.children ++ codes "]"))) in
    let behind_number = codes ": " ++ (rule_text line.rule ++ lists) in
    bind_gives (where_number k (number_at (2 ^ 64) (decimal k ++ behind_number))) _ behind_number line (number_back k behind_number (number_at (2 ^ 64) (decimal k ++ behind_number)) (number_at-decimal (2 ^ 64) k behind_number small (omega arith) refl))
    (bind_gives (rule_at (rule_text line.rule ++ lists)) _ (line.rule, lists) line (rule_at-text line.rule lists is.rule) (lists_back line is))
