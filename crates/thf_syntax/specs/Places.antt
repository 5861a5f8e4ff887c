-- Trees without the places of their tokens.
use Rattle.std.specs.Prelude.{◌≡◌, List, map, Option, Some, None}
use Rattle.thf_grammar.specs.Trees.{TypeTree, form, indiv, named, arrow, VarTree, FormulaTree, constant, variable, truth, operator, negation, binary, equation, application, quantified, binding, BodyTree, base, typing, formula, AnnotatedTree, SelectedTree, StatementTree, annotated, include}

-- a tree with each place 0
abbrev pub bare_type : TypeTree → TypeTree
bare_type (form at) = form 0
bare_type (indiv at) = indiv 0
bare_type (named at name) = named 0 name
bare_type (arrow at from to) = arrow 0 (bare_type from) (bare_type to)

abbrev pub bare_var : VarTree → VarTree
bare_var v = record { at = 0; name = v.name; ty = bare_type v.ty }

abbrev pub bare_formula : FormulaTree → FormulaTree
bare_formula (constant at name) = constant 0 name
bare_formula (variable at name) = variable 0 name
bare_formula (truth at value) = truth 0 value
bare_formula (operator at conn) = operator 0 conn
bare_formula (negation at body) = negation 0 (bare_formula body)
bare_formula (binary at conn left right) = binary 0 conn (bare_formula left) (bare_formula right)
bare_formula (equation at positive left right) = equation 0 positive (bare_formula left) (bare_formula right)
bare_formula (application at fun arg) = application 0 (bare_formula fun) (bare_formula arg)
bare_formula (quantified at all arg) = quantified 0 all (bare_formula arg)
bare_formula (binding at binder vars body) = binding 0 binder (map bare_var vars) (bare_formula body)

abbrev pub bare_body : BodyTree → BodyTree
bare_body (base at name) = base 0 name
bare_body (typing at name ty) = typing 0 name (bare_type ty)
bare_body (formula tree) = formula (bare_formula tree)

abbrev pub bare_annotated : AnnotatedTree → AnnotatedTree
bare_annotated a = record { name = a.name; role = a.role; role_at = 0; body = bare_body a.body }

abbrev pub bare_selected : SelectedTree → SelectedTree
bare_selected s = record { at = 0; name = s.name }

abbrev pub bare_selection : Option (List SelectedTree) → Option (List SelectedTree)
bare_selection None = None
bare_selection (Some only) = Some (map bare_selected only)

abbrev pub bare_statement : StatementTree → StatementTree
bare_statement (annotated a) = annotated (bare_annotated a)
bare_statement (include at file only) = include 0 file (bare_selection only)

-- the same trees, places aside
abbrev pub SamePlacesAside : List StatementTree → List StatementTree → Type 0
SamePlacesAside tree other = map bare_statement tree ≡ map bare_statement other
