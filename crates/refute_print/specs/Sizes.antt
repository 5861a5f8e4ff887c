-- Refutations that are small enough for a text, whatever names it has: terms aren't too deep, and numbers are in range.
use Rattle.std.specs.Prelude.{ℕ, suc, ◌^◌, ◌<◌, ◌≤◌, max, List, length}
use Rattle.std.specs.List.{AllByRecursion}
use Rattle.stt_core.specs.SimpleType.{SimpleType, base, arrow}
use Rattle.stt_core.specs.Lambda.{Constant, name, witness, falsity, negation, implication, all, equality, choice, description, Lambda, bound, constant, lam, app}
use Rattle.stt_core.specs.Depth.{depth}
use Rattle.tableau_calculus.specs.Literals.{Literal}
use Rattle.tableau_calculus.specs.Witnesses.{Row}
use Rattle.tableau_calculus.specs.Rules.{PlainRule}
use Rattle.tableau_calculus.specs.declared.rule_use.RuleUse.TheVariants.{AtOne, AtTwo, AllPos, WithPredicate, Cut}
use Rattle.tableau_calculus.specs.declared.refutation.Line.{Line}
use Rattle.tableau_calculus.specs.declared.refutation.Refutation.{Refutation}
use Rattle.refute_print.specs.Limits.{IsChild}

-- how deep a term may nest, and how deep the types in it
abbrev pub term_limit : ℕ
term_limit = 4096

abbrev pub type_limit : ℕ
type_limit = 2000

-- how many types of functions stand one inside the other
abbrev pub nesting : SimpleType → ℕ
nesting (base n) = 0
nesting (arrow a b) = suc (max (nesting a) (nesting b))

abbrev pub nesting_in : Constant → ℕ
nesting_in (name k) = 0
nesting_in (witness k) = 0
nesting_in falsity = 0
nesting_in negation = 0
nesting_in implication = 0
nesting_in (all a) = nesting a
nesting_in (equality a) = nesting a
nesting_in (choice a) = nesting a
nesting_in (description a) = nesting a

-- the greatest nesting of a type in the term
abbrev pub type_depth : Lambda → ℕ
type_depth (bound k) = 0
type_depth (constant c) = nesting_in c
type_depth (lam a s) = max (nesting a) (type_depth s)
type_depth (app s u) = max (type_depth s) (type_depth u)

pub record IsSmallTerm (t : Lambda) : Type 0 where
  pub terms : depth t ≤ term_limit
  pub types : type_depth t ≤ type_limit

abbrev pub AreSmallLiterals : List Literal → Type 0
AreSmallLiterals literals = AllByRecursion (λ (l : Literal). IsSmallTerm l.atom) literals

-- the places that a rule is used at, and the term that it takes
abbrev pub IsSmallRule : PlainRule → Type 0
IsSmallRule (AtOne r i) = i < 2 ^ 64
IsSmallRule (AtTwo r i j) = (i < 2 ^ 64) × (j < 2 ^ 64)
IsSmallRule (AllPos i u) = (i < 2 ^ 64) × IsSmallTerm u
IsSmallRule (WithPredicate r f) = IsSmallTerm f
IsSmallRule (Cut l) = IsSmallTerm l.atom

pub record IsSmallLine (line : Line) : Type 0 where
  pub branch : AreSmallLiterals line.branch
  pub rule : IsSmallRule line.rule
  pub children : AllByRecursion IsChild line.children

pub record AreSmallLines (lines : List Line) : Type 0 where
  pub each : AllByRecursion IsSmallLine lines
  pub numbers : length lines ≤ 2 ^ 64

-- The refutation is small: its witnesses' predicates, its literals and what its rules take nest no deeper than terms may, and places, lines
-- and witnesses have numbers in range.
pub record IsSmall (r : Refutation) : Type 0 where
  pub rows : AllByRecursion (λ (row : Row). IsSmallTerm row.predicate) r.witnesses
  pub row_numbers : length r.witnesses ≤ 2 ^ 32
  pub lines : AreSmallLines r.lines
