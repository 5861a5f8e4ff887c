-- Which trees have a text: names are THF's, numbers are in range, a head isn't a function, and not too much is open at once.
use Rattle.std.specs.Prelude.{◌≡◌, ℕ, suc, ◌^◌, ◌<◌, ◌≤◌, max, Bool, true, false}
use Rattle.std.specs.List.{AllByRecursion}
use Rattle.tableau_calculus.specs.declared.refutation.Child.{Child}
use Rattle.tableau_calculus.specs.declared.refutation.Child.TheVariants.{Closed, Line as Numbered}
use Rattle.tableau_calculus.specs.declared.rule_use.RuleUse.{RuleUse}
use Rattle.tableau_calculus.specs.declared.rule_use.RuleUse.TheVariants.{AtOne, AtTwo, AllPos, WithPredicate, Cut}
use Rattle.refute_print.specs.Letters.{is_printable_name}
use Rattle.refute_print.specs.Trees.{TextTypeTree, formula, individual, named, arrow, ConstantTree, name, witness, falsity, negation, implication, all, equality, choice, description, TermTree, bound, constant, lam, app, LiteralTree, LineTree}

-- the greatest number of parentheses that are open at once
abbrev pub type_tree_depth : TextTypeTree → ℕ
type_tree_depth formula = 0
type_tree_depth individual = 0
type_tree_depth (named w) = 0
type_tree_depth (arrow a b) = suc (max (type_tree_depth a) (type_tree_depth b))

abbrev pub constant_depth : ConstantTree → ℕ
constant_depth (name w) = 0
constant_depth (witness k) = 0
constant_depth falsity = 0
constant_depth negation = 0
constant_depth implication = 0
constant_depth (all a) = suc (type_tree_depth a)
constant_depth (equality a) = suc (type_tree_depth a)
constant_depth (choice a) = suc (type_tree_depth a)
constant_depth (description a) = suc (type_tree_depth a)

abbrev mutual
  -- the greatest number of parentheses, brackets and functions that are open at once
  pub term_depth : TermTree → ℕ
  term_depth (bound k) = 0
  term_depth (constant c) = constant_depth c
  term_depth (lam a s) = suc (max (type_tree_depth a) (term_depth s))
  term_depth (app s u) = suc (max (spine_depth s) (term_depth u))

  -- the same inside the parentheses
  pub spine_depth : TermTree → ℕ
  spine_depth (bound k) = 0
  spine_depth (constant c) = constant_depth c
  spine_depth (lam a s) = suc (max (type_tree_depth a) (term_depth s))
  spine_depth (app s u) = max (spine_depth s) (term_depth u)

abbrev pub IsPrintableType : TextTypeTree → Type 0
IsPrintableType formula = Unit {0}
IsPrintableType individual = Unit {0}
IsPrintableType (named w) = is_printable_name w ≡ true
IsPrintableType (arrow a b) = IsPrintableType a × IsPrintableType b

abbrev pub IsConstant : ConstantTree → Type 0
IsConstant (name w) = is_printable_name w ≡ true
IsConstant (witness k) = k < 2 ^ 32
IsConstant falsity = Unit {0}
IsConstant negation = Unit {0}
IsConstant implication = Unit {0}
IsConstant (all a) = IsPrintableType a
IsConstant (equality a) = IsPrintableType a
IsConstant (choice a) = IsPrintableType a
IsConstant (description a) = IsPrintableType a

abbrev mutual
  pub IsTerm : TermTree → Type 0
  IsTerm (bound k) = k < 2 ^ 32
  IsTerm (constant c) = IsConstant c
  IsTerm (lam a s) = IsPrintableType a × IsTerm s
  IsTerm (app s u) = IsSpine s × IsTerm u

  -- a head with arguments
  pub IsSpine : TermTree → Type 0
  IsSpine (bound k) = k < 2 ^ 32
  IsSpine (constant c) = IsConstant c
  IsSpine (lam a s) = ⊥
  IsSpine (app s u) = IsSpine s × IsTerm u

-- whether a term's head is negation
abbrev pub is_negated_text : TermTree → Bool
is_negated_text (bound k) = false
is_negated_text (constant negation) = true
is_negated_text (constant c) = false
is_negated_text (lam a s) = false
is_negated_text (app s u) = is_negated_text s

-- how many things may be open at once
abbrev pub greatest_depth : ℕ
greatest_depth = 8192

-- a term of a text
pub record IsWithinLimits (t : TermTree) : Type 0 where
  pub is_term : IsTerm t
  pub within : term_depth t ≤ greatest_depth

-- a literal of a text: negation is its sign, and not its head
pub record IsLiteralText (l : LiteralTree) : Type 0 where
  pub atom : IsWithinLimits l.atom
  pub unsigned : is_negated_text l.atom ≡ false

abbrev pub IsRule : RuleUse ℕ TermTree LiteralTree → Type 0
IsRule (AtOne r i) = i < 2 ^ 64
IsRule (AtTwo r i j) = (i < 2 ^ 64) × (j < 2 ^ 64)
IsRule (AllPos i u) = (i < 2 ^ 64) × IsWithinLimits u
IsRule (WithPredicate r f) = IsWithinLimits f
IsRule (Cut l) = IsLiteralText l

abbrev pub IsChild : Child → Type 0
IsChild Closed = Unit {0}
IsChild (Numbered k) = k < 2 ^ 64

-- a line of a text
pub record IsLine (line : LineTree) : Type 0 where
  pub branch : AllByRecursion IsLiteralText line.branch
  pub rule : IsRule line.rule
  pub children : AllByRecursion IsChild line.children
