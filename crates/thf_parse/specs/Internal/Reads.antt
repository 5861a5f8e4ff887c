-- What the code answers, with the tokens that are then left, beside what is to be read.
use Rattle.std.specs.Prelude.{◌≡◌, List, Result, Ok, Err, Option, map}
use Rattle.std.specs.Global.{Box}
use Rattle.thf_grammar.specs.Trees.{TypeTree, VarTree, FormulaTree, BodyTree, SelectedTree, StatementTree}
use Rattle.thf_grammar.specs.View.{the_surface_type, the_var, the_formula, the_body, the_selected, the_selection, the_statement, the_file}
use Rattle.thf_grammar.specs.declared.types.SurfaceTy.{SurfaceTy}
use Rattle.thf_grammar.specs.declared.types.SurfaceVar.{SurfaceVar}
use Rattle.thf_grammar.specs.declared.formula.Surface.{Surface}
use Rattle.thf_grammar.specs.declared.statement.Body.{Body}
use Rattle.thf_grammar.specs.declared.statement.Selected.{Selected}
use Rattle.thf_grammar.specs.declared.statement.Statement.{Statement}
use Rattle.thf_parse.specs.declared.refusal.Refusal.{Refusal}
use Rattle.thf_parse.specs.declared.statement.Heading.{Heading}
use Rattle.thf_grammar.specs.Words.{Lexeme}
use Rattle.thf_parse.specs.Internal.Outcome.{Outcome, found}
use Rattle.thf_parse.specs.Internal.Passes.{IsRefusal}
use Rattle.thf_parse.specs.Internal.StatementReader.{Head, statement_head}

abbrev pub ReadsType : List Lexeme → Result SurfaceTy Refusal → Outcome TypeTree → Type 0
ReadsType left (Ok ty) o = o ≡ found (the_surface_type ty) left
ReadsType left (Err e) o = IsRefusal left e o

abbrev pub ReadsVar : List Lexeme → Result SurfaceVar Refusal → Outcome VarTree → Type 0
ReadsVar left (Ok var) o = o ≡ found (the_var var) left
ReadsVar left (Err e) o = IsRefusal left e o

abbrev pub ReadsFormula : List Lexeme → Result (Box Surface) Refusal → Outcome FormulaTree → Type 0
ReadsFormula left (Ok tree) o = o ≡ found (the_formula tree.value) left
ReadsFormula left (Err e) o = IsRefusal left e o

abbrev pub ReadsBody : List Lexeme → Result Body Refusal → Outcome BodyTree → Type 0
ReadsBody left (Ok body) o = o ≡ found (the_body body) left
ReadsBody left (Err e) o = IsRefusal left e o

abbrev pub ReadsLabel : List Lexeme → Result Selected Refusal → Outcome SelectedTree → Type 0
ReadsLabel left (Ok label) o = o ≡ found (the_selected label) left
ReadsLabel left (Err e) o = IsRefusal left e o

abbrev pub ReadsLabels : List Lexeme → Result (List Selected) Refusal → Outcome (List SelectedTree) → Type 0
ReadsLabels left (Ok labels) o = o ≡ found (map the_selected labels) left
ReadsLabels left (Err e) o = IsRefusal left e o

abbrev pub ReadsSelection : List Lexeme → Result (Option (List Selected)) Refusal → Outcome (Option (List SelectedTree)) → Type 0
ReadsSelection left (Ok only) o = o ≡ found (the_selection only) left
ReadsSelection left (Err e) o = IsRefusal left e o

abbrev pub ReadsHead : List Lexeme → Result Heading Refusal → Outcome Head → Type 0
ReadsHead left (Ok head) o = o ≡ found (statement_head head.name (the_selected head.role)) left
ReadsHead left (Err e) o = IsRefusal left e o

abbrev pub ReadsStatement : List Lexeme → Result Statement Refusal → Outcome StatementTree → Type 0
ReadsStatement left (Ok statement) o = o ≡ found (the_statement statement) left
ReadsStatement left (Err e) o = IsRefusal left e o

abbrev pub ReadsFile : List Lexeme → Result (List Statement) Refusal → Outcome (List StatementTree) → Type 0
ReadsFile left (Ok file) o = o ≡ found (the_file file) left
ReadsFile left (Err e) o = IsRefusal left e o
