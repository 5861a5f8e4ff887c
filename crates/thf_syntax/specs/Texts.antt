-- The texts of trees.
use Rattle.std.specs.Prelude.{ℕ, Bool, true, false, List, [], ◌∷◌, ◌++◌, map, Option, Some, None, codes}
use Rattle.std.specs.List.{flat_map}
use Rattle.thf_grammar.specs.Trees.{TypeTree, form, indiv, named, arrow, VarTree, FormulaTree, constant, variable, truth, operator, negation, binary, equation, application, quantified, binding, BodyTree, base, typing, formula, AnnotatedTree, SelectedTree, StatementTree, annotated, include}
use Rattle.thf_grammar.specs.declared.connective.Conn.{Conn}
use Rattle.thf_grammar.specs.declared.connective.Conn.TheVariants.{Not, And, Or, Imp, If, Iff, Xor, Nor, Nand}
use Rattle.thf_grammar.specs.declared.connective.Binder.{Binder}
use Rattle.thf_grammar.specs.declared.connective.Binder.TheVariants.{All, Exists, Lam, Choice, Desc}
use Rattle.thf_syntax.specs.declared.slot.Slot.TheVariants.{Primary, Unitary, Head, Operand, Member}
use Rattle.thf_names.specs.Names.{quoted, name_text, label_text}
use Rattle.thf_syntax.specs.Slots.{left_slot, takes, is_simple}

-- a text, in parentheses unless it needs none
abbrev pub grouped_unless : Bool → List ℕ → List ℕ
grouped_unless true text = text
grouped_unless false text = codes "( " ++ (text ++ codes " )")

-- texts with a separator between them
abbrev pub separated : List ℕ → List (List ℕ) → List ℕ
separated separator [] = []
separated separator (t ∷ ts) = t ++ flat_map (λ u. separator ++ u) ts

abbrev pub type_text : TypeTree → List ℕ
type_text (form at) = codes "$o"
type_text (indiv at) = codes "$i"
type_text (named at name) = name_text name
type_text (arrow at from to) = grouped_unless (is_simple from) (type_text from) ++ (codes " > " ++ type_text to)

abbrev pub var_text : VarTree → List ℕ
var_text v = v.name ++ (codes ": " ++ type_text v.ty)

abbrev pub conn_text : Conn → List ℕ
conn_text Not = codes "~"
conn_text And = codes "&"
conn_text Or = codes "|"
conn_text Imp = codes "=>"
conn_text If = codes "<="
conn_text Iff = codes "<=>"
conn_text Xor = codes "<~>"
conn_text Nor = codes "~|"
conn_text Nand = codes "~&"

abbrev pub binder_text : Binder → List ℕ
binder_text All = codes "!"
binder_text Exists = codes "?"
binder_text Lam = codes "^"
binder_text Choice = codes "@+"
binder_text Desc = codes "@-"

abbrev pub truth_text : Bool → List ℕ
truth_text true = codes "$true"
truth_text false = codes "$false"

abbrev pub equality_text : Bool → List ℕ
equality_text true = codes "="
equality_text false = codes "!="

abbrev pub quantifier_text : Bool → List ℕ
quantifier_text true = codes "!!"
quantifier_text false = codes "??"

-- a symbol between spaces, and a text behind it
abbrev pub behind_symbol : List ℕ → List ℕ → List ℕ
behind_symbol symbol right = (codes " " ++ (symbol ++ codes " ")) ++ right

-- two texts with a symbol between them
abbrev pub infixed : List ℕ → List ℕ → List ℕ → List ℕ
infixed left symbol right = left ++ behind_symbol symbol right

-- a binder with its variables, up to its colon
abbrev pub opening_text : Binder → List VarTree → List ℕ
opening_text binder vars = binder_text binder ++ (codes " [" ++ (separated (codes ", ") (map var_text vars) ++ codes "] : "))

abbrev pub formula_text : FormulaTree → List ℕ
formula_text (constant at name) = name_text name
formula_text (variable at name) = name
formula_text (truth at value) = truth_text value
formula_text (operator at conn) = codes "(" ++ (conn_text conn ++ codes ")")
formula_text (negation at body) = codes "~ " ++ grouped_unless (takes Operand body) (formula_text body)
formula_text (binary at conn left right) =
    infixed (grouped_unless (takes (left_slot conn) left) (formula_text left)) (conn_text conn)
    (grouped_unless (takes Member right) (formula_text right))
formula_text (equation at positive left right) =
    infixed (grouped_unless (takes Primary left) (formula_text left)) (equality_text positive)
    (grouped_unless (takes Unitary right) (formula_text right))
formula_text (application at fun arg) =
    infixed (grouped_unless (takes Head fun) (formula_text fun)) (codes "@") (grouped_unless (takes Operand arg) (formula_text arg))
formula_text (quantified at all arg) = infixed (quantifier_text all) (codes "@") (grouped_unless (takes Operand arg) (formula_text arg))
formula_text (binding at binder vars body) = opening_text binder vars ++ grouped_unless (takes Member body) (formula_text body)

abbrev pub body_text : BodyTree → List ℕ
body_text (base at name) = name_text name ++ codes ": $tType"
body_text (typing at name ty) = name_text name ++ (codes ": " ++ type_text ty)
body_text (formula tree) = formula_text tree

abbrev pub selected_text : SelectedTree → List ℕ
selected_text s = label_text s.name

abbrev pub selection_text : Option (List SelectedTree) → List ℕ
selection_text None = []
selection_text (Some only) = codes ",[" ++ (separated (codes ",") (map selected_text only) ++ codes "]")

-- what stands before the body of an annotated formula
abbrev pub heading_text : AnnotatedTree → List ℕ
heading_text a = codes "thf(" ++ (label_text a.name ++ (codes "," ++ (a.role ++ codes ",")))

abbrev pub annotated_text : AnnotatedTree → List ℕ
annotated_text a = heading_text a ++ (body_text a.body ++ codes ").\n")

abbrev pub statement_text : StatementTree → List ℕ
statement_text (annotated a) = annotated_text a
statement_text (include at file only) = codes "include(" ++ (quoted file ++ (selection_text only ++ codes ").\n"))

-- the text of a file, a statement on each line
abbrev pub surface_text : List StatementTree → List ℕ
surface_text statements = flat_map statement_text statements
