-- A refutation's text, with the numbers of what a signature declares in place of the names.
use Rattle.std.specs.Prelude.{ℕ, ◌+◌, List, map}
use Rattle.std.specs.List.{position_or_len}
use Rattle.std.specs.Str.{bytes_eq}
use Rattle.stt_core.specs.SimpleType.{SimpleType, base, arrow}
use Rattle.stt_core.specs.Lambda.{Constant, name, witness, falsity, negation, implication, all, equality, choice, description, Lambda, bound, constant, lam, app}
use Rattle.tableau_calculus.specs.Literals.{Literal}
use Rattle.tableau_calculus.specs.Witnesses.{Row}
use Rattle.tableau_calculus.specs.RuleUses.{map_use}
use Rattle.tableau_calculus.specs.Rules.{PlainRule}
use Rattle.tableau_calculus.specs.declared.rule_use.RuleUse.{RuleUse}
use Rattle.tableau_calculus.specs.declared.refutation.Line.{Line}
use Rattle.tableau_calculus.specs.declared.refutation.Refutation.{Refutation}
use Rattle.refute_print.specs.Trees.{TextTypeTree, ConstantTree, TermTree, LiteralTree, LineTree, RefutationTree}
use Rattle.refute_print.specs.Trees as tree
use Rattle.refute_print.specs.Named.{Names}
use Rattle.witness_names.specs.Rows.{binder_of}

-- The first place of the name in the list. A name that isn't there gets the length of the list, a place at which nothing stands.
abbrev pub name_place : List (List ℕ) → List ℕ → ℕ
name_place names w = position_or_len (λ n. bytes_eq n w) names

-- A base type that isn't declared gets the least number that isn't declared.
abbrev pub numbered_type : Names → TextTypeTree → SimpleType
numbered_type names tree.formula = base 0
numbered_type names tree.individual = base 1
numbered_type names (tree.named w) = base (name_place names.bases w + 2)
numbered_type names (tree.arrow a b) = arrow (numbered_type names a) (numbered_type names b)

-- The same holds of a constant.
abbrev pub numbered_constant : Names → ConstantTree → Constant
numbered_constant names (tree.name w) = name (name_place names.constants w)
numbered_constant names (tree.witness k) = witness k
numbered_constant names tree.falsity = falsity
numbered_constant names tree.negation = negation
numbered_constant names tree.implication = implication
numbered_constant names (tree.all a) = all (numbered_type names a)
numbered_constant names (tree.equality a) = equality (numbered_type names a)
numbered_constant names (tree.choice a) = choice (numbered_type names a)
numbered_constant names (tree.description a) = description (numbered_type names a)

abbrev pub numbered_term : Names → TermTree → Lambda
numbered_term names (tree.bound k) = bound k
numbered_term names (tree.constant c) = constant (numbered_constant names c)
numbered_term names (tree.lam a s) = lam (numbered_type names a) (numbered_term names s)
numbered_term names (tree.app s u) = app (numbered_term names s) (numbered_term names u)

abbrev pub numbered_literal : Names → LiteralTree → Literal
numbered_literal names l = record { positive = l.positive; atom = numbered_term names l.atom }

abbrev pub numbered_rule : Names → RuleUse ℕ TermTree LiteralTree → PlainRule
numbered_rule names rule = map_use (λ i. i) (numbered_term names) (numbered_literal names) rule

abbrev pub numbered_line : Names → LineTree → Line
numbered_line names line = record {
  branch = map (numbered_literal names) line.branch;
  rule = numbered_rule names line.rule;
  children = line.children;
}

-- The witness of a row has the type that the row's predicate takes.
abbrev pub numbered_row : Names → TermTree → Row
numbered_row names f = record { type = binder_of (numbered_term names f); predicate = numbered_term names f }

abbrev pub numbered_refutation : Names → RefutationTree → Refutation
numbered_refutation names r = record {
  witnesses = map (numbered_row names) r.rows;
  lines = map (numbered_line names) r.lines;
}
