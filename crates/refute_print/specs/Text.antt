-- The text of a refutation.
use Rattle.std.specs.Prelude.{ℕ, suc, Bool, true, false, List, [], ◌∷◌, ◌++◌, map, codes, decimal}
use Rattle.tableau_calculus.specs.declared.refutation.Child.{Child}
use Rattle.tableau_calculus.specs.declared.refutation.Child.TheVariants.{Closed, Line as Numbered}
use Rattle.tableau_calculus.specs.declared.rule_use.OnePlace.{OnePlace}
use Rattle.tableau_calculus.specs.declared.rule_use.OnePlace.TheVariants.{False, Refl, ImpPos, ImpNeg, BoolPos, BoolNeg, FunPos, FunNeg, AllNeg, Dec}
use Rattle.tableau_calculus.specs.declared.rule_use.TwoPlaces.{TwoPlaces}
use Rattle.tableau_calculus.specs.declared.rule_use.TwoPlaces.TheVariants.{Close, Mat, Con}
use Rattle.tableau_calculus.specs.declared.rule_use.OfPredicate.{OfPredicate}
use Rattle.tableau_calculus.specs.declared.rule_use.OfPredicate.TheVariants.{Cho, Des}
use Rattle.tableau_calculus.specs.declared.rule_use.RuleUse.{RuleUse}
use Rattle.tableau_calculus.specs.declared.rule_use.RuleUse.TheVariants.{AtOne, AtTwo, AllPos, WithPredicate, Cut}
use Rattle.thf_names.specs.Names.{name_text}
use Rattle.refute_print.specs.Trees.{TextTypeTree, formula, individual, named, arrow, ConstantTree, name, witness, falsity, negation, implication, all, equality, choice, description, TermTree, bound, constant, lam, app, LiteralTree, LineTree, RefutationTree}

abbrev pub text_of_type : TextTypeTree → List ℕ
text_of_type formula = codes "$o"
text_of_type individual = codes "$i"
text_of_type (named w) = name_text w
text_of_type (arrow a b) = codes "(" ++ (text_of_type a ++ (codes ">" ++ (text_of_type b ++ codes ")")))

abbrev pub constant_text : ConstantTree → List ℕ
constant_text (name w) = name_text w
constant_text (witness k) = codes "$w" ++ decimal k
constant_text falsity = codes "$f"
constant_text negation = codes "$not"
constant_text implication = codes "$imp"
constant_text (all a) = codes "$all[" ++ (text_of_type a ++ codes "]")
constant_text (equality a) = codes "$eq[" ++ (text_of_type a ++ codes "]")
constant_text (choice a) = codes "$eps[" ++ (text_of_type a ++ codes "]")
constant_text (description a) = codes "$the[" ++ (text_of_type a ++ codes "]")

abbrev mutual
  pub term_text : TermTree → List ℕ
  term_text (bound k) = codes "#" ++ decimal k
  term_text (constant c) = constant_text c
  term_text (lam a s) = codes "^" ++ (text_of_type a ++ (codes "." ++ term_text s))
  term_text (app s u) = codes "(" ++ (spine_text s ++ (codes " " ++ (term_text u ++ codes ")")))

  -- a head with its arguments, without parentheses
  pub spine_text : TermTree → List ℕ
  spine_text (bound k) = codes "#" ++ decimal k
  spine_text (constant c) = constant_text c
  spine_text (lam a s) = codes "^" ++ (text_of_type a ++ (codes "." ++ term_text s))
  spine_text (app s u) = spine_text s ++ (codes " " ++ term_text u)

abbrev pub sign_text : Bool → List ℕ
sign_text true = codes "+"
sign_text false = codes "-"

abbrev pub literal_text : LiteralTree → List ℕ
literal_text l = sign_text l.positive ++ term_text l.atom

-- the texts behind the first one of a list, each after a comma
abbrev pub after_commas : List (List ℕ) → List ℕ
after_commas [] = []
after_commas (t ∷ ts) = codes "," ++ (t ++ after_commas ts)

-- texts with commas between them
abbrev pub comma_separated : List (List ℕ) → List ℕ
comma_separated [] = []
comma_separated (t ∷ ts) = t ++ after_commas ts

abbrev pub child_text : Child → List ℕ
child_text Closed = codes "x"
child_text (Numbered k) = decimal k

abbrev pub one_place_name : OnePlace → List ℕ
one_place_name False = codes "False"
one_place_name Refl = codes "Refl"
one_place_name ImpPos = codes "Imp+"
one_place_name ImpNeg = codes "Imp-"
one_place_name BoolPos = codes "Bool+"
one_place_name BoolNeg = codes "Bool-"
one_place_name FunPos = codes "Fun+"
one_place_name FunNeg = codes "Fun-"
one_place_name AllNeg = codes "All-"
one_place_name Dec = codes "Dec"

-- the rules of one place, in the order in which a name is looked for
abbrev pub one_place_rules : List OnePlace
one_place_rules = False ∷ Refl ∷ ImpPos ∷ ImpNeg ∷ BoolPos ∷ BoolNeg ∷ FunPos ∷ FunNeg ∷ AllNeg ∷ Dec ∷ []

abbrev pub two_places_name : TwoPlaces → List ℕ
two_places_name Close = codes "Close"
two_places_name Mat = codes "Mat"
two_places_name Con = codes "Con"

-- the rules of two places, in the order in which a name is looked for
abbrev pub two_places_rules : List TwoPlaces
two_places_rules = Close ∷ Mat ∷ Con ∷ []

abbrev pub predicate_name : OfPredicate → List ℕ
predicate_name Cho = codes "Cho"
predicate_name Des = codes "Des"

-- the rules of a predicate, in the order in which a name is looked for
abbrev pub predicate_rules : List OfPredicate
predicate_rules = Cho ∷ Des ∷ []

abbrev pub rule_text : RuleUse ℕ TermTree LiteralTree → List ℕ
rule_text (AtOne r i) = one_place_name r ++ (codes "(" ++ (decimal i ++ codes ")"))
rule_text (AtTwo r i j) = two_places_name r ++ (codes "(" ++ (decimal i ++ (codes "," ++ (decimal j ++ codes ")"))))
rule_text (AllPos i u) = codes "All+(" ++ (decimal i ++ (codes ";" ++ (term_text u ++ codes ")")))
rule_text (WithPredicate r f) = predicate_name r ++ (codes "(" ++ (term_text f ++ codes ")"))
rule_text (Cut l) = codes "Cut(" ++ (literal_text l ++ codes ")")

-- the line of a witness row, by its number
abbrev pub row_text : ℕ → TermTree → List ℕ
row_text k f = codes "w" ++ (decimal k ++ (codes " " ++ term_text f))

abbrev pub branch_text : List LiteralTree → List ℕ
branch_text branch = comma_separated (map literal_text branch)

abbrev pub children_text : List Child → List ℕ
children_text children = comma_separated (map child_text children)

-- the line of a line, by its number
abbrev pub line_text : ℕ → LineTree → List ℕ
line_text k line =
    decimal k
    ++ (codes ": "
    ++ (rule_text line.rule
    ++ (codes " [" ++ (branch_text line.branch ++ (codes "] [" ++ (children_text line.children ++ codes "]"))))))

abbrev pub row_texts : ℕ → List TermTree → List (List ℕ)
row_texts k [] = []
row_texts k (f ∷ rows) = row_text k f ∷ row_texts (suc k) rows

abbrev pub line_texts : ℕ → List LineTree → List (List ℕ)
line_texts k [] = []
line_texts k (l ∷ lines) = line_text k l ∷ line_texts (suc k) lines

-- A text has version 2 exactly where definitions are unfolded.
abbrev pub version_text : List (List ℕ) → List ℕ
version_text [] = codes "version 1"
version_text (w ∷ names) = codes "version 2"

-- the line of a name whose definition is unfolded
abbrev pub definition_text : List ℕ → List ℕ
definition_text w = codes "d " ++ name_text w

-- The lines between the start line and the end line.
abbrev pub text_lines : RefutationTree → List (List ℕ)
text_lines r = version_text r.names ∷ (map definition_text r.names ++ (row_texts 0 r.rows ++ line_texts 0 r.lines))

-- lines as bytes: a line feed ends each
abbrev pub as_bytes : List (List ℕ) → List ℕ
as_bytes [] = []
as_bytes (l ∷ lines) = l ++ (10 ∷ as_bytes lines)
