-- The plain trees of the declared trees.
use Rattle.std.specs.Prelude.{List, map, Option, Some, None}
use Rattle.thf_grammar.specs.Trees.{TypeTree, form, indiv, named, arrow, VarTree, FormulaTree, constant, variable, truth, operator, negation, binary, equation, application, quantified, binding, BodyTree, base, typing, formula, AnnotatedTree, SelectedTree, StatementTree, annotated, include}
use Rattle.thf_grammar.specs.declared.types.SurfaceTy.{SurfaceTy}
use Rattle.thf_grammar.specs.declared.types.SurfaceTy.TheVariants.{Form, Indiv, Named, Arrow'}
use Rattle.thf_grammar.specs.declared.types.SurfaceVar.{SurfaceVar}
use Rattle.thf_grammar.specs.declared.formula.Surface.{Surface}
use Rattle.thf_grammar.specs.declared.formula.Surface.TheVariants.{Name, Var, Truth, Op, Not', Binary', Equation', Apply', Quant', Bind'}
use Rattle.thf_grammar.specs.declared.statement.Body.{Body}
use Rattle.thf_grammar.specs.declared.statement.Body.TheVariants as body
use Rattle.thf_grammar.specs.declared.statement.Annotated.{Annotated}
use Rattle.thf_grammar.specs.declared.statement.Selected.{Selected}
use Rattle.thf_grammar.specs.declared.statement.Statement.{Statement}
use Rattle.thf_grammar.specs.declared.statement.Statement.TheVariants as statement

abbrev pub the_surface_type : SurfaceTy → TypeTree
the_surface_type (Form at) = form at
the_surface_type (Indiv at) = indiv at
the_surface_type (Named at name) = named at name
the_surface_type (Arrow' at p from q to) = arrow at (the_surface_type from) (the_surface_type to)

abbrev pub the_var : SurfaceVar → VarTree
the_var v = record { at = v.at; name = v.name; ty = the_surface_type v.ty }

abbrev pub the_vars : List SurfaceVar → List VarTree
the_vars vs = map the_var vs

abbrev pub the_formula : Surface → FormulaTree
the_formula (Name at name) = constant at name
the_formula (Var at name) = variable at name
the_formula (Truth at value) = truth at value
the_formula (Op at conn) = operator at conn
the_formula (Not' at p body) = negation at (the_formula body)
the_formula (Binary' at conn p left q right) = binary at conn (the_formula left) (the_formula right)
the_formula (Equation' at positive p left q right) = equation at positive (the_formula left) (the_formula right)
the_formula (Apply' at p fun q arg) = application at (the_formula fun) (the_formula arg)
the_formula (Quant' at all p arg) = quantified at all (the_formula arg)
the_formula (Bind' binder at vars p body) = binding at binder (the_vars vars) (the_formula body)

abbrev pub the_body : Body → BodyTree
the_body (body.Base at name) = base at name
the_body (body.Typing at name ty) = typing at name (the_surface_type ty)
the_body (body.Formula tree) = formula (the_formula tree)

abbrev pub the_annotated : Annotated → AnnotatedTree
the_annotated a = record { name = a.name; role = a.role; role_at = a.role_at; body = the_body a.body }

abbrev pub the_selected : Selected → SelectedTree
the_selected s = record { at = s.at; name = s.name }

abbrev pub the_selection : Option (List Selected) → Option (List SelectedTree)
the_selection None = None
the_selection (Some only) = Some (map the_selected only)

abbrev pub the_statement : Statement → StatementTree
the_statement (statement.Annotated a) = annotated (the_annotated a)
the_statement (statement.Include at file only) = include at file (the_selection only)

-- the statements of a file
abbrev pub the_file : List Statement → List StatementTree
the_file statements = map the_statement statements
