-- The text of a tree doesn't depend on its places.
use Rattle.std.proofs.Common.{◌≡◌, ℕ, List, [], ◌∷◌, ◌++◌, map, Option, Some, None, codes, refl, sym, ap, ap₂, ◌∙◌}
use Rattle.thf_grammar.specs.Trees.{TypeTree, form, indiv, named, arrow, VarTree, FormulaTree, constant, variable, truth, operator, negation, binary, equation, application, quantified, binding, BodyTree, base, typing, formula, SelectedTree, StatementTree, annotated, include}
use Rattle.thf_syntax.specs.declared.slot.Slot.{Slot}
use Rattle.thf_syntax.specs.declared.slot.Slot.TheVariants.{Primary, Unitary, Head, Operand, Member}
use Rattle.thf_names.specs.Names.{quoted, name_text, label_text}
use Rattle.thf_syntax.specs.Slots.{left_slot, takes, is_simple}
use Rattle.thf_syntax.specs.Texts.{grouped_unless, separated, type_text, var_text, conn_text, binder_text, equality_text, quantifier_text, infixed, formula_text, body_text, selected_text, selection_text, heading_text, statement_text, surface_text}
use Rattle.thf_syntax.specs.Places.{bare_type, bare_var, bare_formula, bare_body, bare_selected, bare_selection, bare_statement, SamePlacesAside}

is_simple-bare_type : (t : TypeTree) → is_simple (bare_type t) ≡ is_simple t
is_simple-bare_type (form at) = refl
is_simple-bare_type (indiv at) = refl
is_simple-bare_type (named at name) = refl
is_simple-bare_type (arrow at from to) = refl

type_text-bare_type : (t : TypeTree) → type_text (bare_type t) ≡ type_text t
type_text-bare_type (form at) = refl
type_text-bare_type (indiv at) = refl
type_text-bare_type (named at name) = refl
type_text-bare_type (arrow at from to) =
    ap₂ (λ left right. left ++ (codes " > " ++ right)) (ap₂ grouped_unless (is_simple-bare_type from) (type_text-bare_type from)) (type_text-bare_type to)

vars-bare : (vs : List VarTree) → map var_text (map bare_var vs) ≡ map var_text vs
vars-bare [] = refl
vars-bare (v ∷ vs) = ap₂ (λ ty later. (v.name ++ (codes ": " ++ ty)) ∷ later) (type_text-bare_type v.ty) (vars-bare vs)

takes-bare_formula : (slot : Slot) (t : FormulaTree) → takes slot (bare_formula t) ≡ takes slot t
takes-bare_formula slot (constant at name) = refl
takes-bare_formula slot (variable at name) = refl
takes-bare_formula slot (truth at value) = refl
takes-bare_formula slot (operator at conn) = refl
takes-bare_formula slot (negation at body) = refl
takes-bare_formula slot (binary at conn left right) = refl
takes-bare_formula slot (equation at positive left right) = refl
takes-bare_formula slot (application at fun arg) = refl
takes-bare_formula slot (quantified at all arg) = refl
takes-bare_formula slot (binding at binder vars body) = refl

abbrev slot_text : Slot → FormulaTree → List ℕ
slot_text slot t = grouped_unless (takes slot t) (formula_text t)

slot-bare : (slot : Slot) (t : FormulaTree) → formula_text (bare_formula t) ≡ formula_text t → slot_text slot (bare_formula t) ≡ slot_text slot t
slot-bare slot t h = ap₂ grouped_unless (takes-bare_formula slot t) h

formula_text-bare_formula : (t : FormulaTree) → formula_text (bare_formula t) ≡ formula_text t
formula_text-bare_formula (constant at name) = refl
formula_text-bare_formula (variable at name) = refl
formula_text-bare_formula (truth at value) = refl
formula_text-bare_formula (operator at conn) = refl
formula_text-bare_formula (negation at body) = ap (λ t. codes "~ " ++ t) (slot-bare Operand body (formula_text-bare_formula body))
formula_text-bare_formula (binary at conn left right) =
    ap₂ (λ t u. infixed t (conn_text conn) u) (slot-bare (left_slot conn) left (formula_text-bare_formula left)) (slot-bare Member right (formula_text-bare_formula right))
formula_text-bare_formula (equation at positive left right) =
    ap₂ (λ t u. infixed t (equality_text positive) u) (slot-bare Primary left (formula_text-bare_formula left)) (slot-bare Unitary right (formula_text-bare_formula right))
formula_text-bare_formula (application at fun arg) =
    ap₂ (λ t u. infixed t (codes "@") u) (slot-bare Head fun (formula_text-bare_formula fun)) (slot-bare Operand arg (formula_text-bare_formula arg))
formula_text-bare_formula (quantified at all arg) =
    ap (λ u. infixed (quantifier_text all) (codes "@") u) (slot-bare Operand arg (formula_text-bare_formula arg))
formula_text-bare_formula (binding at binder vars body) =
    ap₂ (λ names t. (binder_text binder ++ (codes " [" ++ (separated (codes ", ") names ++ codes "] : "))) ++ t) (vars-bare vars) (slot-bare Member body (formula_text-bare_formula body))

body_text-bare_body : (b : BodyTree) → body_text (bare_body b) ≡ body_text b
body_text-bare_body (base at name) = refl
body_text-bare_body (typing at name ty) = ap (λ t. name_text name ++ (codes ": " ++ t)) (type_text-bare_type ty)
body_text-bare_body (formula tree) = formula_text-bare_formula tree

labels-bare : (ls : List SelectedTree) → map selected_text (map bare_selected ls) ≡ map selected_text ls
labels-bare [] = refl
labels-bare (l ∷ ls) = ap (λ later. label_text l.name ∷ later) (labels-bare ls)

selection_text-bare_selection : (only : Option (List SelectedTree)) → selection_text (bare_selection only) ≡ selection_text only
selection_text-bare_selection None = refl
selection_text-bare_selection (Some only) = ap (λ names. codes ",[" ++ (separated (codes ",") names ++ codes "]")) (labels-bare only)

statement_text-bare_statement : (s : StatementTree) → statement_text (bare_statement s) ≡ statement_text s
statement_text-bare_statement (annotated a) =
    ap (λ body. heading_text a ++ (body ++ codes ").\n")) (body_text-bare_body a.body)
statement_text-bare_statement (include at file only) =
    ap (λ names. codes "include(" ++ (quoted file ++ (names ++ codes ").\n"))) (selection_text-bare_selection only)

surface_text-bare : (ss : List StatementTree) → surface_text (map bare_statement ss) ≡ surface_text ss
surface_text-bare [] = refl
surface_text-bare (s ∷ ss) = ap₂ (λ t u. t ++ u) (statement_text-bare_statement s) (surface_text-bare ss)

-- the same trees, places aside, have one text
pub surface_text-same : (tree other : List StatementTree) → SamePlacesAside tree other → surface_text tree ≡ surface_text other
surface_text-same tree other h = sym (surface_text-bare tree) ∙ ap surface_text h ∙ surface_text-bare other
