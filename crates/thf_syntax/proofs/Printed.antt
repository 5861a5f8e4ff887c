-- The pieces of the texts of trees. Each function puts them before others; the number is how many things are open before them.
use Rattle.std.proofs.Common.{ℕ, suc, Bool, true, false, List, [], ◌∷◌, Option, Some, None, codes, if◌then◌else◌}
use Rattle.thf_grammar.specs.declared.token.TokenKind.{TokenKind}
use Rattle.thf_grammar.specs.declared.token.TokenKind.TheVariants.{Lower, Upper, Quoted, Dollar, Integer, Symbol}
use Rattle.thf_grammar.specs.Trees.{TypeTree, form, indiv, named, arrow, VarTree, FormulaTree, constant, variable, truth, operator, negation, binary, equation, application, quantified, binding, BodyTree, base, typing, formula, SelectedTree, StatementTree, annotated, include}
use Rattle.thf_grammar.specs.declared.connective.Conn.{Conn}
use Rattle.thf_grammar.specs.Formulas.{is_chained, lone_depth}
use Rattle.thf_syntax.specs.declared.slot.Slot.{Slot}
use Rattle.thf_syntax.specs.declared.slot.Slot.TheVariants.{Primary, Unitary, Head, Operand, Member}
use Rattle.thf_names.specs.Names.{is_lower_word, is_integer, quoted, name_text, label_text}
use Rattle.thf_syntax.specs.Slots.{left_slot, takes_binary, takes, is_simple}
use Rattle.thf_syntax.specs.Texts.{conn_text, binder_text, truth_text, equality_text, quantifier_text}
use Rattle.thf_syntax.proofs.Pieces.{Piece, token, gap}

abbrev pub name_kind : List ℕ → TokenKind
name_kind name = if is_lower_word name then Lower else Quoted

abbrev pub label_kind : List ℕ → TokenKind
label_kind name = if is_lower_word name then Lower else (if is_integer name then Integer else Quoted)

abbrev pub space : Piece
space = gap 32

-- pieces, in parentheses unless they need none
abbrev pub grouped : Bool → (ℕ → List Piece → List Piece) → ℕ → List Piece → List Piece
grouped true pieces d rest = pieces d rest
grouped false pieces d rest = token Symbol (codes "(") (suc d) ∷ space ∷ pieces (suc d) (space ∷ token Symbol (codes ")") (suc d) ∷ rest)

abbrev pub type_pieces : TypeTree → ℕ → List Piece → List Piece
type_pieces (form at) d rest = token Dollar (codes "$o") d ∷ rest
type_pieces (indiv at) d rest = token Dollar (codes "$i") d ∷ rest
type_pieces (named at name) d rest = token (name_kind name) (name_text name) d ∷ rest
type_pieces (arrow at from to) d rest =
    grouped (is_simple from) (type_pieces from) d (space ∷ token Symbol (codes ">") (suc d) ∷ space ∷ type_pieces to (suc d) rest)

abbrev pub var_pieces : VarTree → ℕ → List Piece → List Piece
var_pieces v d rest = token Upper v.name d ∷ token Symbol (codes ":") d ∷ space ∷ type_pieces v.ty d rest

abbrev pub vars_pieces : List VarTree → ℕ → List Piece → List Piece
vars_pieces [] d rest = rest
vars_pieces (v ∷ []) d rest = var_pieces v (suc (suc d)) rest
vars_pieces (v ∷ u ∷ vs) d rest = var_pieces v (suc (suc d)) (token Symbol (codes ",") (suc (suc d)) ∷ space ∷ vars_pieces (u ∷ vs) (suc d) rest)

-- how many things are open behind the variables of a binder
abbrev pub behind_vars : List VarTree → ℕ → ℕ
behind_vars [] d = d
behind_vars (v ∷ vs) d = behind_vars vs (suc d)

-- how many things are open behind a formula that stands there, before the next link of its chain
abbrev pub behind_links : Slot → FormulaTree → ℕ → ℕ
behind_links slot (binary at conn left right) d = if takes_binary conn slot then suc (behind_links slot left d) else d
behind_links slot _ d = d

-- how many things are open behind a formula, before its next argument
abbrev pub behind_arguments : FormulaTree → ℕ → ℕ
behind_arguments (application at fun arg) d = suc (behind_arguments fun d)
behind_arguments (quantified at all arg) d = suc d
behind_arguments _ d = d

-- the depth of a connective behind its left operand
abbrev pub conn_depth : Conn → FormulaTree → ℕ → ℕ
conn_depth conn left d = if is_chained conn then suc (behind_links (left_slot conn) left d) else d

abbrev pub infixed_pieces : (ℕ → List Piece → List Piece) → ℕ → List ℕ → (ℕ → List Piece → List Piece) → ℕ → List Piece → List Piece
infixed_pieces left d symbol right e rest = left d (space ∷ token Symbol symbol e ∷ space ∷ right e rest)

abbrev pub formula_pieces : FormulaTree → ℕ → List Piece → List Piece
formula_pieces (constant at name) d rest = token (name_kind name) (name_text name) d ∷ rest
formula_pieces (variable at name) d rest = token Upper name d ∷ rest
formula_pieces (truth at value) d rest = token Dollar (truth_text value) d ∷ rest
formula_pieces (operator at conn) d rest = token Symbol (codes "(") (suc d) ∷ token Symbol (conn_text conn) (lone_depth conn (suc d)) ∷ token Symbol (codes ")") (suc d) ∷ rest
formula_pieces (negation at body) d rest = token Symbol (codes "~") (suc d) ∷ space ∷ grouped (takes Operand body) (formula_pieces body) (suc d) rest
formula_pieces (binary at conn left right) d rest =
    infixed_pieces (grouped (takes (left_slot conn) left) (formula_pieces left)) d (conn_text conn) (grouped (takes Member right) (formula_pieces right)) (conn_depth conn left d) rest
formula_pieces (equation at positive left right) d rest =
    infixed_pieces (grouped (takes Primary left) (formula_pieces left)) d (equality_text positive) (grouped (takes Unitary right) (formula_pieces right)) d rest
formula_pieces (application at fun arg) d rest =
    infixed_pieces (grouped (takes Head fun) (formula_pieces fun)) d (codes "@") (grouped (takes Operand arg) (formula_pieces arg)) (suc (behind_arguments fun d)) rest
formula_pieces (quantified at all arg) d rest =
    infixed_pieces (λ e rest. token Symbol (quantifier_text all) e ∷ rest) d (codes "@") (grouped (takes Operand arg) (formula_pieces arg)) (suc d) rest
formula_pieces (binding at binder vars body) d rest =
    let e = behind_vars vars d in
    token Symbol (binder_text binder) d ∷ space ∷ token Symbol (codes "[") (suc d)
    ∷ vars_pieces vars d (token Symbol (codes "]") (suc e) ∷ space ∷ token Symbol (codes ":") e ∷ space ∷ grouped (takes Member body) (formula_pieces body) e rest)

abbrev pub body_pieces : BodyTree → List Piece → List Piece
body_pieces (base at name) rest = token (name_kind name) (name_text name) 0 ∷ token Symbol (codes ":") 0 ∷ space ∷ token Dollar (codes "$tType") 0 ∷ rest
body_pieces (typing at name ty) rest = token (name_kind name) (name_text name) 0 ∷ token Symbol (codes ":") 0 ∷ space ∷ type_pieces ty 0 rest
body_pieces (formula tree) rest = formula_pieces tree 0 rest

abbrev pub label_piece : List ℕ → Piece
label_piece name = token (label_kind name) (label_text name) 0

abbrev pub labels_pieces : List SelectedTree → List Piece → List Piece
labels_pieces [] rest = rest
labels_pieces (s ∷ []) rest = label_piece s.name ∷ rest
labels_pieces (s ∷ u ∷ us) rest = label_piece s.name ∷ token Symbol (codes ",") 0 ∷ labels_pieces (u ∷ us) rest

abbrev pub selection_pieces : Option (List SelectedTree) → List Piece → List Piece
selection_pieces None rest = rest
selection_pieces (Some only) rest = token Symbol (codes ",") 0 ∷ token Symbol (codes "[") 0 ∷ labels_pieces only (token Symbol (codes "]") 0 ∷ rest)

abbrev pub end_pieces : List Piece → List Piece
end_pieces rest = token Symbol (codes ")") 0 ∷ token Symbol (codes ".") 0 ∷ gap 10 ∷ rest

abbrev pub statement_pieces : StatementTree → List Piece → List Piece
statement_pieces (annotated a) rest =
    token Lower (codes "thf") 0 ∷ token Symbol (codes "(") 0 ∷ label_piece a.name ∷ token Symbol (codes ",") 0 ∷ token Lower a.role 0
    ∷ token Symbol (codes ",") 0 ∷ body_pieces a.body (end_pieces rest)
statement_pieces (include at file only) rest =
    token Lower (codes "include") 0 ∷ token Symbol (codes "(") 0 ∷ token Quoted (quoted file) 0 ∷ selection_pieces only (end_pieces rest)

abbrev pub file_pieces : List StatementTree → List Piece
file_pieces [] = []
file_pieces (s ∷ ss) = statement_pieces s (file_pieces ss)
