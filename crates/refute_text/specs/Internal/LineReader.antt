-- How the reader of lines goes.
use Rattle.std.specs.Prelude.{ℕ, ◌==◌, ◌^◌, length, Bool, true, false, List, [], ◌∷◌, ◌++◌, codes, Option, Some, None, if◌then◌else◌}
use Rattle.tableau_calculus.specs.declared.refutation.Child.{Child}
use Rattle.tableau_calculus.specs.declared.refutation.Child.TheVariants.{Closed, Line as Numbered}
use Rattle.tableau_calculus.specs.declared.rule_use.OnePlace.{OnePlace}
use Rattle.tableau_calculus.specs.declared.rule_use.TwoPlaces.{TwoPlaces}
use Rattle.tableau_calculus.specs.declared.rule_use.OfPredicate.{OfPredicate}
use Rattle.tableau_calculus.specs.declared.rule_use.RuleUse.{RuleUse}
use Rattle.tableau_calculus.specs.declared.rule_use.RuleUse.TheVariants.{AtOne, AtTwo, AllPos, WithPredicate, Cut}
use Rattle.refute_print.specs.Trees.{TermTree, LiteralTree, LineTree}
use Rattle.refute_print.specs.Text.{one_place_name, one_place_rules, two_places_name, two_places_rules, predicate_name, predicate_rules}
use Rattle.refute_print.specs.Limits.{is_negated_text, greatest_depth}
use Rattle.refute_text.specs.Internal.Reader.{◌>>=◌, behind_text, by_front, number_at, name_at, repeated_at, with_items}
use Rattle.refute_text.specs.Internal.TermReader.{term_text_at}

abbrev pub read_literal : Bool → TermTree → LiteralTree
read_literal positive t = record { positive = positive; atom = t }

abbrev pub unsigned_at : Bool → TermTree → List ℕ → Option (LiteralTree × List ℕ)
unsigned_at positive t rest = if is_negated_text t then None else Some (read_literal positive t, rest)

abbrev pub signed_text_at : Bool → List ℕ → Option (LiteralTree × List ℕ)
signed_text_at positive bytes = do
  t ← term_text_at greatest_depth bytes
  unsigned_at positive t.0 t.1

unfoldable pub literal_text_at : List ℕ → Option (LiteralTree × List ℕ)
literal_text_at bytes =
    by_front (behind_text (codes "+") bytes) (signed_text_at true) (by_front (behind_text (codes "-") bytes) (signed_text_at false) None)

unfoldable pub child_at : List ℕ → Option (Child × List ℕ)
child_at bytes =
    by_front (behind_text (codes "x") bytes) (λ rest. Some (Closed, rest)) (number_at (2 ^ 64) bytes >>= (λ k. Some (Numbered k.0, k.1)))

-- items with commas between them, and the bracket that closes them
abbrev pub some_items_at : {X : Type 0} → (List ℕ → Option (X × List ℕ)) → List ℕ → Option (List X × List ℕ)
some_items_at item bytes = do
  x ← item bytes
  xs ← with_items (x.0 ∷ []) (repeated_at (codes ",") item (length x.1) x.1)
  rest ← behind_text (codes "]") xs.1
  Some (xs.0, rest)

abbrev pub items_at : {X : Type 0} → (List ℕ → Option (X × List ℕ)) → List ℕ → Option (List X × List ℕ)
items_at item bytes = by_front (behind_text (codes "]") bytes) (λ rest. Some ([], rest)) (some_items_at item bytes)

-- a place and the parenthesis behind it
unfoldable pub place_text_at : List ℕ → Option (ℕ × List ℕ)
place_text_at bytes = do
  i ← number_at (2 ^ 64) bytes
  rest ← behind_text (codes ")") i.1
  Some (i.0, rest)

-- the first rule of the list whose name, with a parenthesis behind it, is at the front, and what follows
abbrev pub named_first : {K : Type 0} → (K → List ℕ) → List K → List ℕ → Option (K × List ℕ)
named_first name [] bytes = None
named_first name (k ∷ ks) bytes = by_front (behind_text (name k ++ codes "(") bytes) (λ rest. Some (k, rest)) (named_first name ks bytes)

unfoldable pub one_place_named : List ℕ → Option (OnePlace × List ℕ)
one_place_named bytes = named_first one_place_name one_place_rules bytes

unfoldable pub two_places_named : List ℕ → Option (TwoPlaces × List ℕ)
two_places_named bytes = named_first two_places_name two_places_rules bytes

unfoldable pub predicate_named : List ℕ → Option (OfPredicate × List ℕ)
predicate_named bytes = named_first predicate_name predicate_rules bytes

abbrev pub RuleAt : Type 0
RuleAt = Option (RuleUse ℕ TermTree LiteralTree × List ℕ)

-- the rule, from what stands behind its name and the parenthesis on
abbrev pub one_place_at : OnePlace → List ℕ → RuleAt
one_place_at rule bytes = do
  i ← place_text_at bytes
  Some (AtOne rule i.0, i.1)

-- two places with a comma between them, and the parenthesis behind them
abbrev pub places_at : List ℕ → Option ((ℕ × ℕ) × List ℕ)
places_at bytes = do
  i ← number_at (2 ^ 64) bytes
  rest ← behind_text (codes ",") i.1
  j ← place_text_at rest
  Some ((i.0, j.0), j.1)

abbrev pub two_places_at : TwoPlaces → List ℕ → RuleAt
two_places_at rule bytes = do
  p ← places_at bytes
  Some (AtTwo rule p.0.0 p.0.1, p.1)

abbrev pub instance_at : List ℕ → RuleAt
instance_at bytes = do
  i ← number_at (2 ^ 64) bytes
  rest ← behind_text (codes ";") i.1
  u ← term_text_at greatest_depth rest
  rest ← behind_text (codes ")") u.1
  Some (AllPos i.0 u.0, rest)

abbrev pub predicate_at : OfPredicate → List ℕ → RuleAt
predicate_at rule bytes = do
  f ← term_text_at greatest_depth bytes
  rest ← behind_text (codes ")") f.1
  Some (WithPredicate rule f.0, rest)

abbrev pub cut_at : List ℕ → RuleAt
cut_at bytes = do
  l ← literal_text_at bytes
  rest ← behind_text (codes ")") l.1
  Some (Cut l.0, rest)

unfoldable pub rule_at : List ℕ → RuleAt
rule_at bytes =
    by_front (one_place_named bytes) (λ k. one_place_at k.0 k.1)
    (by_front (two_places_named bytes) (λ k. two_places_at k.0 k.1)
    (by_front (predicate_named bytes) (λ k. predicate_at k.0 k.1)
    (by_front (behind_text (codes "All+(") bytes) instance_at (by_front (behind_text (codes "Cut(") bytes) cut_at None))))

-- a number that is the wanted one
abbrev pub where_number : ℕ → Option (ℕ × List ℕ) → Option (List ℕ)
where_number k None = None
where_number k (Some n) = if n.0 == k then Some n.1 else None

-- the end of a line
abbrev pub end_at : List ℕ → Option (List ℕ)
end_at [] = Some []
end_at (c ∷ cs) = None

-- the name on the line of a definition
unfoldable pub definition_at : List ℕ → Option (List ℕ)
definition_at line = do
  rest ← behind_text (codes "d ") line
  w ← name_at rest
  end ← end_at w.1
  Some w.0

unfoldable pub row_at : ℕ → List ℕ → Option TermTree
row_at k line = do
  rest ← behind_text (codes "w") line
  rest ← where_number k (number_at (2 ^ 32) rest)
  rest ← behind_text (codes " ") rest
  t ← term_text_at greatest_depth rest
  end ← end_at t.1
  Some t.0

-- the branch of a line, and its children up to the end
abbrev pub branch_at : List ℕ → Option (List LiteralTree × List ℕ)
branch_at bytes = do
  rest ← behind_text (codes " [") bytes
  items_at literal_text_at rest

abbrev pub children_at : List ℕ → Option (List Child)
children_at bytes = do
  rest ← behind_text (codes " [") bytes
  children ← items_at child_at rest
  end ← end_at children.1
  Some children.0

-- what stands behind the rule of a line
unfoldable pub behind_rule_at : List ℕ → Option (List LiteralTree × List Child)
behind_rule_at bytes = do
  branch ← branch_at bytes
  children ← children_at branch.1
  Some (branch.0, children)

abbrev pub with_lists : RuleUse ℕ TermTree LiteralTree → List LiteralTree × List Child → LineTree
with_lists rule lists = record { branch = lists.0; rule = rule; children = lists.1 }

unfoldable pub lists_at : RuleUse ℕ TermTree LiteralTree → List ℕ → Option LineTree
lists_at rule bytes = do
  lists ← behind_rule_at bytes
  Some (with_lists rule lists)

unfoldable pub line_at : ℕ → List ℕ → Option LineTree
line_at k line = do
  rest ← where_number k (number_at (2 ^ 64) line)
  rest ← behind_text (codes ": ") rest
  rule ← rule_at rest
  lists_at rule.0 rule.1
