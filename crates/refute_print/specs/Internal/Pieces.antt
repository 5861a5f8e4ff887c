-- The text of a refutation in the pieces in which it is written.
use Rattle.std.specs.Prelude.{ℕ, zero, suc, List, [], ◌∷◌, ◌++◌, map, codes, decimal}
use Rattle.std.specs.List.{flat_map}
use Rattle.stt_core.specs.SimpleType.{SimpleType}
use Rattle.stt_core.specs.Lambda.{Lambda}
use Rattle.tableau_calculus.specs.Literals.{Literal}
use Rattle.tableau_calculus.specs.Witnesses.{Row}
use Rattle.tableau_calculus.specs.declared.refutation.Child.{Child}
use Rattle.tableau_calculus.specs.declared.refutation.Line.{Line}
use Rattle.thf_names.specs.Names.{name_text}
use Rattle.refute_print.specs.Text.{version_text, text_of_type, term_text, literal_text, branch_text, children_text, child_text, rule_text}
use Rattle.refute_print.specs.Named.{Names, name_numbered, named_type, named_term, named_literal, named_rule, HasTypeNames, HasNames}

abbrev pub lambda_piece : Names → SimpleType → List ℕ
lambda_piece names a = codes "^" ++ (text_of_type (named_type names a) ++ codes ".")

abbrev pub binders_text : Names → List SimpleType → List ℕ
binders_text names as' = flat_map (lambda_piece names) as'

abbrev pub argument_text : Names → Lambda → List ℕ
argument_text names u = codes " " ++ term_text (named_term names u)

abbrev pub arguments_text : Names → List Lambda → List ℕ
arguments_text names us = flat_map (argument_text names) us

-- a head with its arguments, in parentheses where there are any
abbrev pub applied_text : Names → Lambda → List Lambda → List ℕ
applied_text names h [] = term_text (named_term names h)
applied_text names h (u ∷ us) = codes "(" ++ (term_text (named_term names h) ++ (arguments_text names (u ∷ us) ++ codes ")"))

abbrev pub BindersHaveNames : Names → List SimpleType → Type 0
BindersHaveNames names [] = Unit {0}
BindersHaveNames names (a ∷ as') = HasTypeNames names a × BindersHaveNames names as'

abbrev pub ArgumentsHaveNames : Names → List Lambda → Type 0
ArgumentsHaveNames names [] = Unit {0}
ArgumentsHaveNames names (u ∷ us) = HasNames names u × ArgumentsHaveNames names us

-- what stands before the text at this place of a list
abbrev pub comma_before : ℕ → List ℕ
comma_before zero = []
comma_before (suc i) = codes ","

-- a literal or a child at this place of a list
abbrev pub literal_piece : Names → ℕ → Literal → List ℕ
literal_piece names i l = comma_before i ++ literal_text (named_literal names l)

abbrev pub child_piece : ℕ → Child → List ℕ
child_piece i c = comma_before i ++ child_text c

-- the lines of the version and of a definition, with their line feeds
abbrev pub version_line : List (List ℕ) → List ℕ
version_line names = version_text names ++ codes "\n"

abbrev pub definition_line : Names → ℕ → List ℕ
definition_line names k = codes "d " ++ (name_text (name_numbered names.constants k) ++ codes "\n")

-- the lines of a row and of a line, with their line feeds
abbrev pub row_line : Names → ℕ → Row → List ℕ
row_line names k row = codes "w" ++ (decimal k ++ (codes " " ++ (term_text (named_term names row.predicate) ++ codes "\n")))

abbrev pub line_end : Names → Line → List ℕ
line_end names line =
    codes " [" ++ (branch_text (map (named_literal names) line.branch) ++ (codes "] [" ++ (children_text line.children ++ codes "]\n")))

abbrev pub line_line : Names → ℕ → Line → List ℕ
line_line names k line = decimal k ++ (codes ": " ++ (rule_text (named_rule names line.rule) ++ line_end names line))
