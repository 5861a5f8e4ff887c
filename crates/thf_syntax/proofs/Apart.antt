-- The pieces of a tree that the grammar has are apart.
use Rattle.std.proofs.Common.{◌≡◌, ℕ, suc, Bool, true, false, List, [], ◌∷◌, Option, Some, None, codes, refl}
use Rattle.std.proofs.lemmas.Bool.{or_right}
use Rattle.thf_grammar.specs.declared.token.TokenKind.{TokenKind}
use Rattle.thf_grammar.specs.declared.token.TokenKind.TheVariants.{Lower, Upper, Quoted, Dollar, Symbol}
use Rattle.thf_grammar.specs.Texts.{IsToken}
use Rattle.thf_grammar.specs.Trees.{TypeTree, form, indiv, named, arrow, VarTree, FormulaTree, constant, variable, truth, operator, negation, binary, equation, application, quantified, binding, BodyTree, base, typing, formula, SelectedTree, StatementTree, annotated, include}
use Rattle.thf_grammar.specs.declared.connective.Conn.{Conn}
use Rattle.thf_grammar.specs.declared.connective.Conn.TheVariants.{Not, And, Or, Imp, If, Iff, Xor, Nor, Nand}
use Rattle.thf_grammar.specs.declared.connective.Binder.{Binder}
use Rattle.thf_grammar.specs.declared.connective.Binder.TheVariants.{All, Exists, Lam, Choice, Desc}
use Rattle.thf_syntax.specs.declared.slot.Slot.TheVariants.{Primary, Unitary, Head, Operand, Member}
use Rattle.thf_names.specs.Names.{is_lower_word, quoted, name_text, label_text}
use Rattle.thf_syntax.specs.Slots.{left_slot, takes, is_simple}
use Rattle.thf_syntax.specs.Texts.{conn_text, binder_text, truth_text, equality_text, quantifier_text}
use Rattle.thf_syntax.proofs.Pieces.{Piece, token, is_mark, stops, begins, AreApart}
use Rattle.thf_syntax.proofs.Printed.{space, name_kind, label_kind, label_piece, grouped, type_pieces, var_pieces, vars_pieces, behind_vars, conn_depth, behind_arguments, infixed_pieces, formula_pieces, body_pieces, labels_pieces, selection_pieces, end_pieces, statement_pieces, file_pieces}
use Rattle.thf_syntax.proofs.Proper.{IsProperType, AreProperVars, IsProperVar, IsProper, IsProperBody, AreProperLabels, IsProperSelection, IsProperStatement, AreProperStatements}
use Rattle.thf_syntax.proofs.Spelling.{is_nameable, lower-token, quoted-token, name-token, label-token}

-- pieces that are apart, and begin with a token
record AreReady (ps : List Piece) : Type 0 where
  apart : AreApart ps
  begin : begins ps ≡ true

-- the pieces are apart before any others at which they stop
record Fit (pieces : List Piece → List Piece) : Type 0 where
  ready : (rest : List Piece) → AreApart rest → stops rest ≡ true → AreReady (pieces rest)

-- a token before pieces at which it stops
ready-token : (k : TokenKind) (text : List ℕ) (d : ℕ) (rest : List Piece) → IsToken k text → AreApart rest → stops rest ≡ true → AreReady (token k text d ∷ rest)
ready-token k text d rest is apart stop = record { apart = (is, or_right (is_mark text) (stops rest) stop, apart); begin = refl }

fit-token : (k : TokenKind) (text : List ℕ) (d : ℕ) → IsToken k text → Fit (λ rest. token k text d ∷ rest)
fit-token k text d is = record { ready = λ rest apart stop. ready-token k text d rest is apart stop }

-- a symbol between white space
ready-between : (symbol : List ℕ) (e : ℕ) (right : List Piece) → IsToken Symbol symbol → AreReady right → AreApart (space ∷ token Symbol symbol e ∷ space ∷ right)
ready-between symbol e right is h = (refl, refl, (is, or_right (is_mark symbol) true refl, (refl, h.begin, h.apart)))

fit-grouped : (b : Bool) (pieces : ℕ → List Piece → List Piece) (d : ℕ) → ((e : ℕ) → Fit (pieces e)) → Fit (grouped b pieces d)
fit-grouped true pieces d h = h d
fit-grouped false pieces d h = record {
  ready = λ rest apart stop.
      let inside = (h (suc d)).ready (space ∷ token Symbol (codes ")") (suc d) ∷ rest) (refl, refl, (refl, refl, apart)) refl in
      record { apart = (refl, refl, (refl, inside.begin, inside.apart)); begin = refl };
}

fit-infixed : (left right : ℕ → List Piece → List Piece) (symbol : List ℕ) (d e : ℕ) → IsToken Symbol symbol → Fit (left d) → Fit (right e) → Fit (infixed_pieces left d symbol right e)
fit-infixed left right symbol d e is h k = record {
  ready = λ rest apart stop. h.ready _ (ready-between symbol e (right e rest) is (k.ready rest apart stop)) refl;
}

dollar-token : (word : List ℕ) → is_lower_word word ≡ true → IsToken Dollar (36 ∷ word)
dollar-token word h = (refl, lower-token word h)

fit-type : (t : TypeTree) → IsProperType t → (d : ℕ) → Fit (type_pieces t d)
fit-type (form at) h d = fit-token Dollar (codes "$o") d (dollar-token (codes "o") refl)
fit-type (indiv at) h d = fit-token Dollar (codes "$i") d (dollar-token (codes "i") refl)
fit-type (named at name) h d = fit-token (name_kind name) (name_text name) d (name-token name h)
fit-type (arrow at from to) h d =
    fit-infixed (grouped (is_simple from) (type_pieces from)) (type_pieces to) (codes ">") d (suc d) refl (fit-grouped (is_simple from) (type_pieces from) d (fit-type from h.0)) (fit-type to h.1 (suc d))

-- a name, a colon and a type
ready-typed : (k : TokenKind) (name : List ℕ) (t : TypeTree) (d : ℕ) (rest : List Piece) → IsToken k name → IsProperType t → AreApart rest → stops rest ≡ true → AreReady (token k name d ∷ token Symbol (codes ":") d ∷ space ∷ type_pieces t d rest)
ready-typed k name t d rest is proper apart stop =
    let behind = (fit-type t proper d).ready rest apart stop in
    ready-token k name d _ is (refl, refl, (refl, behind.begin, behind.apart)) refl

fit-var : (v : VarTree) → IsProperVar v → (d : ℕ) → Fit (var_pieces v d)
fit-var v h d = record { ready = λ rest apart stop. ready-typed Upper v.name v.ty d rest h.name h.ty apart stop }

fit-vars : (b : Binder) (vs : List VarTree) → AreProperVars b vs → (d : ℕ) → Fit (vars_pieces vs d)
fit-vars b [] h d = absurd h
fit-vars b (v ∷ []) h d = fit-var v h (suc (suc d))
fit-vars b (v ∷ u ∷ vs) h d = record {
  ready = λ rest apart stop.
      let behind = (fit-vars b (u ∷ vs) h.2 (suc d)).ready rest apart stop in
      (fit-var v h.0 (suc (suc d))).ready _ (refl, refl, (refl, behind.begin, behind.apart)) refl;
}

conn-token : (c : Conn) → IsToken Symbol (conn_text c)
conn-token Not = refl
conn-token And = refl
conn-token Or = refl
conn-token Imp = refl
conn-token If = refl
conn-token Iff = refl
conn-token Xor = refl
conn-token Nor = refl
conn-token Nand = refl

binder-token : (b : Binder) → IsToken Symbol (binder_text b)
binder-token All = refl
binder-token Exists = refl
binder-token Lam = refl
binder-token Choice = refl
binder-token Desc = refl

equality-token : (b : Bool) → IsToken Symbol (equality_text b)
equality-token true = refl
equality-token false = refl

quantifier-token : (b : Bool) → IsToken Symbol (quantifier_text b)
quantifier-token true = refl
quantifier-token false = refl

truth-token : (b : Bool) → IsToken Dollar (truth_text b)
truth-token true = dollar-token (codes "true") refl
truth-token false = dollar-token (codes "false") refl

fit-formula : (t : FormulaTree) → IsProper t → (d : ℕ) → Fit (formula_pieces t d)
fit-formula (constant at name) h d = fit-token (name_kind name) (name_text name) d (name-token name h)
fit-formula (variable at name) h d = fit-token Upper name d h
fit-formula (truth at value) h d = fit-token Dollar (truth_text value) d (truth-token value)
fit-formula (operator at conn) h d = record {
  ready = λ rest apart stop. record { apart = (refl, refl, (conn-token conn, or_right (is_mark (conn_text conn)) true refl, (refl, refl, apart))); begin = refl };
}
fit-formula (negation at body) h d = record {
  ready = λ rest apart stop.
      let behind = (fit-grouped (takes Operand body) (formula_pieces body) (suc d) (fit-formula body h)).ready rest apart stop in
      record { apart = (refl, refl, (refl, behind.begin, behind.apart)); begin = refl };
}
fit-formula (binary at conn left right) h d =
    let e = conn_depth conn left d in
    fit-infixed (grouped (takes (left_slot conn) left) (formula_pieces left)) (grouped (takes Member right) (formula_pieces right)) (conn_text conn) d e (conn-token conn)
    (fit-grouped (takes (left_slot conn) left) (formula_pieces left) d (fit-formula left h.1)) (fit-grouped (takes Member right) (formula_pieces right) e (fit-formula right h.2))
fit-formula (equation at positive left right) h d =
    fit-infixed (grouped (takes Primary left) (formula_pieces left)) (grouped (takes Unitary right) (formula_pieces right)) (equality_text positive) d d (equality-token positive)
    (fit-grouped (takes Primary left) (formula_pieces left) d (fit-formula left h.0)) (fit-grouped (takes Unitary right) (formula_pieces right) d (fit-formula right h.1))
fit-formula (application at fun arg) h d =
    let e = suc (behind_arguments fun d) in
    fit-infixed (grouped (takes Head fun) (formula_pieces fun)) (grouped (takes Operand arg) (formula_pieces arg)) (codes "@") d e refl
    (fit-grouped (takes Head fun) (formula_pieces fun) d (fit-formula fun h.0)) (fit-grouped (takes Operand arg) (formula_pieces arg) e (fit-formula arg h.1))
fit-formula (quantified at all arg) h d =
    fit-infixed (λ e rest. token Symbol (quantifier_text all) e ∷ rest) (grouped (takes Operand arg) (formula_pieces arg)) (codes "@") d (suc d) refl
    (fit-token Symbol (quantifier_text all) d (quantifier-token all)) (fit-grouped (takes Operand arg) (formula_pieces arg) (suc d) (fit-formula arg h))
fit-formula (binding at binder vars body) h d = record {
  ready = λ rest apart stop.
      let behind = (fit-grouped (takes Member body) (formula_pieces body) (behind_vars vars d) (fit-formula body h.1)).ready rest apart stop in
      let inside = (fit-vars binder vars h.0 d).ready _ (refl, refl, (refl, refl, (refl, refl, (refl, behind.begin, behind.apart)))) refl in
      record { apart = (binder-token binder, or_right (is_mark (binder_text binder)) true refl, (refl, refl, (refl, refl, inside.apart))); begin = refl };
}

apart-body : (role : List ℕ) (b : BodyTree) → IsProperBody role b → (rest : List Piece) → AreApart rest → stops rest ≡ true → AreApart (body_pieces b rest)
apart-body role (base at name) h rest apart stop =
    let behind : AreApart (token Symbol (codes ":") 0 ∷ space ∷ token Dollar (codes "$tType") 0 ∷ rest) = (refl, refl, (refl, refl, (dollar-token (codes "tType") refl, stop, apart))) in
    (ready-token (name_kind name) (name_text name) 0 (token Symbol (codes ":") 0 ∷ space ∷ token Dollar (codes "$tType") 0 ∷ rest) (name-token name h.1) behind refl).apart
apart-body role (typing at name ty) h rest apart stop = (ready-typed (name_kind name) (name_text name) ty 0 rest (name-token name h.1) h.2 apart stop).apart
apart-body role (formula tree) h rest apart stop = ((fit-formula tree h.1 0).ready rest apart stop).apart

-- a comma before pieces that are apart
apart-comma : (rest : List Piece) → AreApart rest → AreApart (token Symbol (codes ",") 0 ∷ rest)
apart-comma rest apart = (refl, refl, apart)

apart-label : (name : List ℕ) (rest : List Piece) → is_nameable name ≡ true → AreApart rest → stops rest ≡ true → AreApart (label_piece name ∷ rest)
apart-label name rest h apart stop = (ready-token (label_kind name) (label_text name) 0 rest (label-token name h) apart stop).apart

apart-labels : (ls : List SelectedTree) → AreProperLabels ls → (rest : List Piece) → AreApart rest → stops rest ≡ true → AreApart (labels_pieces ls rest)
apart-labels [] h rest apart stop = absurd h
apart-labels (l ∷ []) h rest apart stop = apart-label l.name rest h apart stop
apart-labels (l ∷ k ∷ ls) h rest apart stop = apart-label l.name (token Symbol (codes ",") 0 ∷ labels_pieces (k ∷ ls) rest) h.0 (apart-comma _ (apart-labels (k ∷ ls) h.1 rest apart stop)) refl

apart-end : (rest : List Piece) → AreApart rest → begins rest ≡ true → AreApart (end_pieces rest)
apart-end rest apart begin = (refl, refl, (refl, refl, (refl, begin, apart)))

apart-include : (only : Option (List SelectedTree)) → IsProperSelection only → (rest : List Piece) → AreApart rest → stops rest ≡ true → AreApart (selection_pieces only rest) × (stops (selection_pieces only rest) ≡ true)
apart-include None h rest apart stop = (apart, stop)
apart-include (Some only) h rest apart stop = ((refl, refl, (refl, refl, apart-labels only h _ (refl, refl, apart) refl)), refl)

apart-statement : (s : StatementTree) → IsProperStatement s → (rest : List Piece) → AreApart rest → begins rest ≡ true → AreApart (statement_pieces s rest)
apart-statement (annotated a) h rest apart begin =
    let body = body_pieces a.body (end_pieces rest) in
    let role = token Lower a.role 0 ∷ token Symbol (codes ",") 0 ∷ body in
    let behind = apart-body a.role a.body h.2 (end_pieces rest) (apart-end rest apart begin) refl in
    let named = (ready-token Lower a.role 0 (token Symbol (codes ",") 0 ∷ body) h.1 (apart-comma body behind) refl).apart in
    (lower-token (codes "thf") refl, refl, (refl, refl, apart-label a.name (token Symbol (codes ",") 0 ∷ role) h.0 (apart-comma role named) refl))
apart-statement (include at file only) h rest apart begin =
    let behind = apart-include only h.1 (end_pieces rest) (apart-end rest apart begin) refl in
    (lower-token (codes "include") refl, refl, (refl, refl, (ready-token Quoted (quoted file) 0 _ (quoted-token file h.0) behind.0 behind.1).apart))

begins-file : (ss : List StatementTree) → begins (file_pieces ss) ≡ true
begins-file [] = refl
begins-file (annotated a ∷ ss) = refl
begins-file (include at file only ∷ ss) = refl

pub apart-file : (ss : List StatementTree) → AreProperStatements ss → AreApart (file_pieces ss)
apart-file [] h = tt
apart-file (s ∷ ss) h = apart-statement s h.0 (file_pieces ss) (apart-file ss h.1) (begins-file ss)
