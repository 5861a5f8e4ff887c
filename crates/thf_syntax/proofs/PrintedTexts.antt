-- The pieces of a tree make its text.
use Rattle.std.proofs.Common.{◌≡◌, ℕ, suc, Bool, true, false, List, [], ◌∷◌, ◌++◌, map, Option, Some, None, codes, refl, sym, ap, ◌∙◌, append_assoc}
use Rattle.thf_grammar.specs.Trees.{TypeTree, form, indiv, named, arrow, VarTree, FormulaTree, constant, variable, truth, operator, negation, binary, equation, application, quantified, binding, BodyTree, base, typing, formula, AnnotatedTree, SelectedTree, StatementTree, annotated, include}
use Rattle.thf_syntax.specs.declared.slot.Slot.TheVariants.{Primary, Unitary, Head, Operand, Member}
use Rattle.thf_names.specs.Names.{quoted, name_text, label_text}
use Rattle.thf_syntax.specs.Slots.{left_slot, takes, is_simple}
use Rattle.thf_syntax.specs.Texts.{grouped_unless, separated, type_text, var_text, conn_text, binder_text, equality_text, quantifier_text, behind_symbol, infixed, opening_text, formula_text, body_text, selected_text, selection_text, heading_text, annotated_text, statement_text, surface_text}
use Rattle.thf_syntax.proofs.Pieces.{Piece, bytes_of}
use Rattle.thf_syntax.proofs.Printed.{grouped, type_pieces, var_pieces, vars_pieces, behind_vars, conn_depth, behind_arguments, infixed_pieces, formula_pieces, body_pieces, labels_pieces, selection_pieces, end_pieces, statement_pieces, file_pieces}

-- the pieces make the text
pub record Make (pieces : ℕ → List Piece → List Piece) (text : List ℕ) : Type 0 where
  pub same : (d : ℕ) (rest : List Piece) → bytes_of (pieces d rest) ≡ text ++ bytes_of rest

pub make-grouped : (b : Bool) (pieces : ℕ → List Piece → List Piece) (text : List ℕ) → Make pieces text → Make (grouped b pieces) (grouped_unless b text)
make-grouped true pieces text h = h
make-grouped false pieces text h = record {
  same = λ d rest. ap (λ t. 40 ∷ 32 ∷ t) (h.same (suc d) _ ∙ sym (append_assoc text (codes " )") (bytes_of rest)));
}

-- two texts with a symbol between them, where each stands at its depth
infixed-bytes : (left right : ℕ → List Piece → List Piece) (before symbol after : List ℕ) → Make left before → Make right after → (d e : ℕ) (rest : List Piece) → bytes_of (infixed_pieces left d symbol right e rest) ≡ infixed before symbol after ++ bytes_of rest
infixed-bytes left right before symbol after h k d e rest =
    h.same d _
    ∙ ap (λ t. before ++ (32 ∷ t)) (ap (λ t. symbol ++ (32 ∷ t)) (k.same e rest) ∙ sym (append_assoc symbol (32 ∷ []) (after ++ bytes_of rest)))
    ∙ ap (λ t. before ++ t) (sym (append_assoc (32 ∷ (symbol ++ 32 ∷ [])) after (bytes_of rest)))
    ∙ sym (append_assoc before (behind_symbol symbol after) (bytes_of rest))

pub make-type : (t : TypeTree) → Make (type_pieces t) (type_text t)
make-type (form at) = record { same = λ d rest. refl }
make-type (indiv at) = record { same = λ d rest. refl }
make-type (named at name) = record { same = λ d rest. refl }
make-type (arrow at from to) =
    let h = make-grouped (is_simple from) (type_pieces from) (type_text from) (make-type from) in
    let k = make-type to in
    record { same = λ d rest. infixed-bytes (grouped (is_simple from) (type_pieces from)) (type_pieces to) (grouped_unless (is_simple from) (type_text from)) (codes ">") (type_text to) h k d (suc d) rest }

make-var : (v : VarTree) → Make (var_pieces v) (var_text v)
make-var v = record {
  same = λ d rest. ap (λ t. v.name ++ (58 ∷ 32 ∷ t)) ((make-type v.ty).same d rest) ∙ sym (append_assoc v.name (58 ∷ 32 ∷ type_text v.ty) (bytes_of rest));
}

make-vars : (vs : List VarTree) → Make (vars_pieces vs) (separated (codes ", ") (map var_text vs))
make-vars [] = record { same = λ d rest. refl }
make-vars (v ∷ []) = record {
  same = λ d rest. (make-var v).same (suc (suc d)) rest ∙ sym (append_assoc (var_text v) [] (bytes_of rest));
}
make-vars (v ∷ u ∷ vs) =
    let later = make-vars (u ∷ vs) in
    record {
      same = λ d rest.
          (make-var v).same (suc (suc d)) _
          ∙ ap (λ t. var_text v ++ (44 ∷ 32 ∷ t)) (later.same (suc d) rest)
          ∙ sym (append_assoc (var_text v) (44 ∷ 32 ∷ separated (codes ", ") (map var_text (u ∷ vs))) (bytes_of rest));
    }

pub make-formula : (t : FormulaTree) → Make (formula_pieces t) (formula_text t)
make-formula (constant at name) = record { same = λ d rest. refl }
make-formula (variable at name) = record { same = λ d rest. refl }
make-formula (truth at value) = record { same = λ d rest. refl }
make-formula (operator at conn) = record {
  same = λ d rest. ap (λ t. 40 ∷ t) (sym (append_assoc (conn_text conn) (codes ")") (bytes_of rest)));
}
make-formula (negation at body) =
    let h = make-grouped (takes Operand body) (formula_pieces body) (formula_text body) (make-formula body) in
    record { same = λ d rest. ap (λ t. 126 ∷ 32 ∷ t) (h.same (suc d) rest) }
make-formula (binary at conn left right) =
    let h = make-grouped (takes (left_slot conn) left) (formula_pieces left) (formula_text left) (make-formula left) in
    let k = make-grouped (takes Member right) (formula_pieces right) (formula_text right) (make-formula right) in
    record { same = λ d rest. infixed-bytes _ _ _ (conn_text conn) _ h k d (conn_depth conn left d) rest }
make-formula (equation at positive left right) =
    let h = make-grouped (takes Primary left) (formula_pieces left) (formula_text left) (make-formula left) in
    let k = make-grouped (takes Unitary right) (formula_pieces right) (formula_text right) (make-formula right) in
    record { same = λ d rest. infixed-bytes _ _ _ (equality_text positive) _ h k d d rest }
make-formula (application at fun arg) =
    let h = make-grouped (takes Head fun) (formula_pieces fun) (formula_text fun) (make-formula fun) in
    let k = make-grouped (takes Operand arg) (formula_pieces arg) (formula_text arg) (make-formula arg) in
    record { same = λ d rest. infixed-bytes _ _ _ (codes "@") _ h k d (suc (behind_arguments fun d)) rest }
make-formula (quantified at all arg) =
    let k = make-grouped (takes Operand arg) (formula_pieces arg) (formula_text arg) (make-formula arg) in
    record {
      same = λ d rest.
          ap (λ t. quantifier_text all ++ (32 ∷ 64 ∷ 32 ∷ t)) (k.same (suc d) rest)
          ∙ sym (append_assoc (quantifier_text all) (32 ∷ 64 ∷ 32 ∷ grouped_unless (takes Operand arg) (formula_text arg)) (bytes_of rest));
    }
make-formula (binding at binder vars body) =
    let k = make-grouped (takes Member body) (formula_pieces body) (formula_text body) (make-formula body) in
    let inner = grouped_unless (takes Member body) (formula_text body) in
    let names = separated (codes ", ") (map var_text vars) in
    record {
      same = λ d rest.
          ap (λ t. binder_text binder ++ (32 ∷ 91 ∷ t))
          ((make-vars vars).same d _
          ∙ ap (λ t. names ++ (93 ∷ 32 ∷ 58 ∷ 32 ∷ t)) (k.same (behind_vars vars d) rest)
          ∙ sym (append_assoc names (codes "] : ") (inner ++ bytes_of rest)))
          ∙ sym (append_assoc (binder_text binder) (32 ∷ 91 ∷ (names ++ codes "] : ")) (inner ++ bytes_of rest))
          ∙ sym (append_assoc (opening_text binder vars) inner (bytes_of rest));
    }

body-bytes : (b : BodyTree) (rest : List Piece) → bytes_of (body_pieces b rest) ≡ body_text b ++ bytes_of rest
body-bytes (base at name) rest = sym (append_assoc (name_text name) (codes ": $tType") (bytes_of rest))
body-bytes (typing at name ty) rest =
    ap (λ t. name_text name ++ (58 ∷ 32 ∷ t)) ((make-type ty).same 0 rest) ∙ sym (append_assoc (name_text name) (58 ∷ 32 ∷ type_text ty) (bytes_of rest))
body-bytes (formula tree) rest = (make-formula tree).same 0 rest

labels-bytes : (ls : List SelectedTree) (rest : List Piece) → bytes_of (labels_pieces ls rest) ≡ separated (codes ",") (map selected_text ls) ++ bytes_of rest
labels-bytes [] rest = refl
labels-bytes (l ∷ []) rest = sym (append_assoc (label_text l.name) [] (bytes_of rest))
labels-bytes (l ∷ k ∷ ls) rest =
    ap (λ t. label_text l.name ++ (44 ∷ t)) (labels-bytes (k ∷ ls) rest)
    ∙ sym (append_assoc (label_text l.name) (44 ∷ separated (codes ",") (map selected_text (k ∷ ls))) (bytes_of rest))

selection-bytes : (only : Option (List SelectedTree)) (rest : List Piece) → bytes_of (selection_pieces only rest) ≡ selection_text only ++ bytes_of rest
selection-bytes None rest = refl
selection-bytes (Some only) rest =
    ap (λ t. 44 ∷ 91 ∷ t) (labels-bytes only _ ∙ sym (append_assoc (separated (codes ",") (map selected_text only)) (codes "]") (bytes_of rest)))

annotated-bytes : (a : AnnotatedTree) (rest : List Piece) → bytes_of (statement_pieces (annotated a) rest) ≡ annotated_text a ++ bytes_of rest
annotated-bytes a rest =
    let behind = body_text a.body ++ codes ").\n" in
    ap (λ t. codes "thf(" ++ t)
    (ap (λ t. label_text a.name ++ (44 ∷ t))
    (ap (λ t. a.role ++ (44 ∷ t)) (body-bytes a.body (end_pieces rest) ∙ sym (append_assoc (body_text a.body) (codes ").\n") (bytes_of rest)))
    ∙ sym (append_assoc a.role (codes ",") (behind ++ bytes_of rest)))
    ∙ sym (append_assoc (label_text a.name) (44 ∷ (a.role ++ codes ",")) (behind ++ bytes_of rest)))
    ∙ sym (append_assoc (heading_text a) behind (bytes_of rest))

include-bytes : (at : ℕ) (file : List ℕ) (only : Option (List SelectedTree)) (rest : List Piece) → bytes_of (statement_pieces (include at file only) rest) ≡ statement_text (include at file only) ++ bytes_of rest
include-bytes at file only rest =
    ap (λ t. codes "include(" ++ t)
    (ap (λ t. quoted file ++ t) (selection-bytes only (end_pieces rest) ∙ sym (append_assoc (selection_text only) (codes ").\n") (bytes_of rest)))
    ∙ sym (append_assoc (quoted file) (selection_text only ++ codes ").\n") (bytes_of rest)))

statement-bytes : (s : StatementTree) (rest : List Piece) → bytes_of (statement_pieces s rest) ≡ statement_text s ++ bytes_of rest
statement-bytes (annotated a) rest = annotated-bytes a rest
statement-bytes (include at file only) rest = include-bytes at file only rest

-- the pieces of a file make its text
pub bytes_of-file_pieces : (ss : List StatementTree) → bytes_of (file_pieces ss) ≡ surface_text ss
bytes_of-file_pieces [] = refl
bytes_of-file_pieces (s ∷ ss) = statement-bytes s (file_pieces ss) ∙ ap (λ t. statement_text s ++ t) (bytes_of-file_pieces ss)
