-- A refutation with the names of a signature in place of their numbers.
use Rattle.std.specs.Prelude.{ℕ, zero, suc, ◌<◌, List, [], ◌∷◌, map, length, slice_get, unwrap_or, IsTrue}
use Rattle.std.specs.List.{AllByRecursion}
use Rattle.stt_core.specs.SimpleType.{SimpleType, base, arrow, is_declared}
use Rattle.stt_core.specs.Lambda.{Constant, name, witness, falsity, negation, implication, all, equality, choice, description, Lambda, bound, constant, lam, app}
use Rattle.stt_core.specs.TypedName.{TypedName}
use Rattle.tableau_calculus.specs.Literals.{Literal}
use Rattle.tableau_calculus.specs.Witnesses.{Row}
use Rattle.tableau_calculus.specs.RuleUses.{map_use, EachPart}
use Rattle.tableau_calculus.specs.Rules.{PlainRule}
use Rattle.tableau_calculus.specs.declared.rule_use.RuleUse.{RuleUse}
use Rattle.tableau_calculus.specs.declared.refutation.Line.{Line}
use Rattle.tableau_calculus.specs.declared.refutation.Refutation.{Refutation}
use Rattle.refute_print.specs.Trees.{TextTypeTree, ConstantTree, TermTree, LiteralTree, LineTree, RefutationTree}
use Rattle.refute_print.specs.Trees as tree

-- the names that a signature declares: those of its own base types, of which the first is number 2, and those of its constants
pub record Names : Type 0 where
  pub bases : List (List ℕ)
  pub constants : List (List ℕ)

abbrev pub names_of : List (List ℕ) → List TypedName → Names
names_of bases consts = record { bases = bases; constants = map (λ c. c.name) consts }

abbrev pub name_numbered : List (List ℕ) → ℕ → List ℕ
name_numbered names k = unwrap_or (slice_get names k) []

abbrev pub named_type : Names → SimpleType → TextTypeTree
named_type names (base zero) = tree.formula
named_type names (base (suc zero)) = tree.individual
named_type names (base (suc (suc k))) = tree.named (name_numbered names.bases k)
named_type names (arrow a b) = tree.arrow (named_type names a) (named_type names b)

abbrev pub named_constant : Names → Constant → ConstantTree
named_constant names (name k) = tree.name (name_numbered names.constants k)
named_constant names (witness k) = tree.witness k
named_constant names falsity = tree.falsity
named_constant names negation = tree.negation
named_constant names implication = tree.implication
named_constant names (all a) = tree.all (named_type names a)
named_constant names (equality a) = tree.equality (named_type names a)
named_constant names (choice a) = tree.choice (named_type names a)
named_constant names (description a) = tree.description (named_type names a)

abbrev pub named_term : Names → Lambda → TermTree
named_term names (bound k) = tree.bound k
named_term names (constant c) = tree.constant (named_constant names c)
named_term names (lam a s) = tree.lam (named_type names a) (named_term names s)
named_term names (app s u) = tree.app (named_term names s) (named_term names u)

abbrev pub named_literal : Names → Literal → LiteralTree
named_literal names l = record { positive = l.positive; atom = named_term names l.atom }

abbrev pub named_rule : Names → PlainRule → RuleUse ℕ TermTree LiteralTree
named_rule names rule = map_use (λ i. i) (named_term names) (named_literal names) rule

abbrev pub named_line : Names → Line → LineTree
named_line names line = record {
  branch = map (named_literal names) line.branch;
  rule = named_rule names line.rule;
  children = line.children;
}

-- with the constants whose definitions are unfolded, by their places
abbrev pub named_refutation : Names → List ℕ → Refutation → RefutationTree
named_refutation names taken r = record {
  names = map (name_numbered names.constants) taken;
  rows = map (λ row. named_term names row.predicate) r.witnesses;
  lines = map (named_line names) r.lines;
}

-- each base type of the type has a name
abbrev pub HasTypeNames : Names → SimpleType → Type 0
HasTypeNames names a = IsTrue (is_declared (length names.bases) a)

-- each name and base type of the constant, or the term, and so on, has a name
abbrev pub HasConstantNames : Names → Constant → Type 0
HasConstantNames names (name k) = k < length names.constants
HasConstantNames names (witness k) = Unit {0}
HasConstantNames names falsity = Unit {0}
HasConstantNames names negation = Unit {0}
HasConstantNames names implication = Unit {0}
HasConstantNames names (all a) = HasTypeNames names a
HasConstantNames names (equality a) = HasTypeNames names a
HasConstantNames names (choice a) = HasTypeNames names a
HasConstantNames names (description a) = HasTypeNames names a

abbrev pub HasNames : Names → Lambda → Type 0
HasNames names (bound k) = Unit {0}
HasNames names (constant c) = HasConstantNames names c
HasNames names (lam a s) = HasTypeNames names a × HasNames names s
HasNames names (app s u) = HasNames names s × HasNames names u

abbrev pub HaveNames : Names → List Literal → Type 0
HaveNames names [] = Unit {0}
HaveNames names (l ∷ literals) = HasNames names l.atom × HaveNames names literals

abbrev pub HasRuleNames : Names → PlainRule → Type 0
HasRuleNames names rule = EachPart (HasNames names) (λ l. HasNames names l.atom) rule

pub record HasLineNames (names : Names) (line : Line) : Type 0 where
  pub branch_named : HaveNames names line.branch
  pub rule_named : HasRuleNames names line.rule

abbrev pub RowsHaveNames : Names → List Row → Type 0
RowsHaveNames names [] = Unit {0}
RowsHaveNames names (row ∷ rows) = HasNames names row.predicate × RowsHaveNames names rows

abbrev pub LinesHaveNames : Names → List Line → Type 0
LinesHaveNames names [] = Unit {0}
LinesHaveNames names (line ∷ lines) = HasLineNames names line × LinesHaveNames names lines

-- the places are those of constants
abbrev pub ArePlaces : Names → List ℕ → Type 0
ArePlaces names taken = AllByRecursion (λ k. k < length names.constants) taken

-- Every name and base type of the refutation is declared.
pub record IsNamed (names : Names) (r : Refutation) : Type 0 where
  pub rows_named : RowsHaveNames names r.witnesses
  pub lines_named : LinesHaveNames names r.lines
