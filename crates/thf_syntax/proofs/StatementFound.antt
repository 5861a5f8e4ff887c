-- The pieces of statements and files are read as these.
use Rattle.std.proofs.Common.{◌≡◌, ℕ, ◌+◌, Bool, true, false, ◌||◌, List, [], ◌∷◌, Option, Some, None, length, map, codes, refl, ap, ap₂, ◌∙◌, subst, sym}
use Rattle.thf_grammar.specs.declared.token.TokenKind.TheVariants as kind
use Rattle.thf_grammar.specs.Trees.{BodyTree, base, typing, formula, AnnotatedTree, SelectedTree, StatementTree, annotated, include}
use Rattle.thf_grammar.specs.declared.terminal.Mark.TheVariants as mark
use Rattle.thf_grammar.specs.declared.terminal.Terminal.TheVariants as terminal
use Rattle.thf_grammar.specs.Words.{name}
use Rattle.thf_grammar.specs.Notes.{no_notes}
use Rattle.thf_grammar.specs.Statements as grammar
use Rattle.thf_grammar.specs.Statements.{IsLabel, IsKeyword, selected, IsTyping, IsBody, AreLabels, IsSelection, IsEnd, IsStatement, IsFile}
use Rattle.thf_names.specs.Names as spec
use Rattle.thf_syntax.specs.Places.{bare_body, bare_selected, bare_selection, bare_statement}
use Rattle.thf_syntax.proofs.Pieces.{Piece, token, word_at, words_at}
use Rattle.thf_syntax.proofs.Printed.{label_kind, body_pieces, labels_pieces, selection_pieces, end_pieces, statement_pieces, file_pieces}
use Rattle.thf_syntax.proofs.Proper.{IsProperBody, AreProperLabels, IsProperSelection, IsProperStatement, AreProperStatements}
use Rattle.thf_syntax.proofs.Spelling.{label_kind_by, text_by, name_in-label, name_in-quoted}
use Rattle.thf_syntax.proofs.Found.{Found, is-word, is_name-word, name-name_word, name-word}
use Rattle.thf_syntax.proofs.TypeFound.{reads-type}
use Rattle.thf_syntax.proofs.FormulaFound.{reads-formula}

is_label-word : (n : List ℕ) (at : ℕ) → IsLabel (word_at (label_kind n) (spec.label_text n) at 0)
is_label-word n at = by_word (spec.is_lower_word n) (spec.is_integer n)
  where
    by_word : (a b : Bool) → IsLabel (word_at (label_kind_by a b) (text_by (a || b) n) at 0)
    by_word true b = grammar.lower (is-word terminal.Lower kind.Lower n at 0 refl)
    by_word false true = grammar.integer (is-word terminal.Integer kind.Integer n at 0 refl)
    by_word false false = grammar.quoted (is-word terminal.Quoted kind.Quoted (spec.quoted n) at 0 refl)

name-label_word : (n : List ℕ) (at : ℕ) → name (word_at (label_kind n) (spec.label_text n) at 0) ≡ n
name-label_word n at = name-word (label_kind n) (spec.label_text n) at 0 ∙ name_in-label n

reads-body : (role : List ℕ) (b : BodyTree) → IsProperBody role b → (at : ℕ) (rest : List Piece) → Found bare_body (IsBody role) at (body_pieces b rest) b rest
reads-body role (base p n) h at rest =
    let there = at + length (spec.name_text n) in
    record {
      end = there + 1 + 1 + length (codes "$tType");
      tree = _;
      read = grammar.typing_body _ _ _ h.0 (grammar.base_typing 0 _ _ _ _ (is_name-word n at 0)
          (is-word (terminal.Mark mark.Colon) kind.Symbol (codes ":") there 0 refl)
          (is-word terminal.TypeOfTypes kind.Dollar (codes "$tType") (there + 1 + 1) 0 refl));
      same = ap (base 0) (name-name_word n at 0);
    }
reads-body role (typing p n ty) h at rest =
    let there = at + length (spec.name_text n) in
    let f = reads-type ty 0 (there + 1 + 1) rest in
    record {
      end = f.end;
      tree = _;
      read = grammar.typing_body _ _ _ h.0 (grammar.constant_typing 0 _ _ _ _ f.tree (is_name-word n at 0)
          (is-word (terminal.Mark mark.Colon) kind.Symbol (codes ":") there 0 refl) f.read);
      same = ap₂ (typing 0) (name-name_word n at 0) f.same;
    }
reads-body role (formula t) h at rest =
    let f = reads-formula t h.1 0 at rest in
    record { end = f.end; tree = formula f.tree; read = grammar.formula_body _ _ f.tree h.0 f.read; same = ap formula f.same }

abbrev selected_as : List ℕ → SelectedTree
selected_as n = record { at = 0; name = n }

reads-labels : (ls : List SelectedTree) → AreProperLabels ls → (at : ℕ) (rest : List Piece) → Found (λ ks. map bare_selected ks) AreLabels at (labels_pieces ls rest) ls rest
reads-labels [] h at rest = absurd h
reads-labels (l ∷ []) h at rest = record {
  end = _;
  tree = _;
  read = grammar.last_label _ _ (is_label-word l.name at);
  same = ap (λ n. selected_as n ∷ []) (name-label_word l.name at);
}
reads-labels (l ∷ k ∷ ls) h at rest =
    let there = at + length (spec.label_text l.name) in
    let f = reads-labels (k ∷ ls) h.1 (there + 1) rest in
    record {
      end = f.end;
      tree = _;
      read = grammar.more_labels _ _ _ _ f.tree (is_label-word l.name at) (is-word (terminal.Mark mark.Comma) kind.Symbol (codes ",") there 0 refl) f.read;
      same = ap₂ (λ n ks. selected_as n ∷ ks) (name-label_word l.name at) f.same;
    }

reads-selection : (only : Option (List SelectedTree)) → IsProperSelection only → (at : ℕ) (rest : List Piece) → Found bare_selection IsSelection at (selection_pieces only rest) only rest
reads-selection None h at rest = record { end = at; tree = None; read = grammar.everything _; same = refl }
reads-selection (Some only) h at rest =
    let f = reads-labels only h (at + 1 + 1) (token kind.Symbol (codes "]") 0 ∷ rest) in
    record {
      end = f.end + 1;
      tree = Some f.tree;
      read = grammar.only _ _ _ _ _ f.tree (is-word (terminal.Mark mark.Comma) kind.Symbol (codes ",") at 0 refl)
          (is-word (terminal.Mark mark.OpenList) kind.Symbol (codes "[") (at + 1) 0 refl) f.read
          (is-word (terminal.Mark mark.CloseList) kind.Symbol (codes "]") f.end 0 refl);
      same = ap Some f.same;
    }

-- what closes a statement
is_end-words : (at : ℕ) (rest : List Piece) → IsEnd (words_at at (end_pieces rest)) (words_at (at + 1 + 1 + 1) rest)
is_end-words at rest = grammar.ends _ _ _ (is-word (terminal.Mark mark.Close) kind.Symbol (codes ")") at 0 refl) (is-word (terminal.Mark mark.Stop) kind.Symbol (codes ".") (at + 1) 0 refl)

keyword : (text : List ℕ) (at : ℕ) → IsKeyword text (word_at kind.Lower text at 0)
keyword text at = record { lower = is-word terminal.Lower kind.Lower text at 0 refl; spelled = refl }

abbrev annotated_as : List ℕ → List ℕ → BodyTree → StatementTree
annotated_as n role b = annotated (record { name = n; role = role; role_at = 0; body = b })

reads-annotated : (a : AnnotatedTree) → IsProperStatement (annotated a) → (at : ℕ) (rest : List Piece) → Found bare_statement IsStatement at (statement_pieces (annotated a) rest) (annotated a) rest
reads-annotated a h at rest =
    let label_at = at + 3 + 1 in
    let comma_at = label_at + length (spec.label_text a.name) in
    let role_at = comma_at + 1 in
    let behind_role = role_at + length a.role in
    let role_is = name-word kind.Lower a.role role_at 0 in
    let f = reads-body a.role a.body h.2 (behind_role + 1) (end_pieces rest) in
    record {
      end = f.end + 1 + 1 + 1;
      tree = _;
      read = grammar.annotated_statement _ _ _ _ _ _ _ _ _ _ f.tree (keyword (codes "thf") at)
          (is-word (terminal.Mark mark.Open) kind.Symbol (codes "(") (at + 3) 0 refl)
          (is_label-word a.name label_at)
          (is-word (terminal.Mark mark.Comma) kind.Symbol (codes ",") comma_at 0 refl)
          (is-word terminal.Lower kind.Lower a.role role_at 0 refl)
          (is-word (terminal.Mark mark.Comma) kind.Symbol (codes ",") behind_role 0 refl)
          (subst (λ role. IsBody role (words_at (behind_role + 1) (body_pieces a.body (end_pieces rest))) f.tree (words_at f.end (end_pieces rest))) (sym role_is) f.read)
          (no_notes _) (is_end-words f.end rest);
      same =
          ap₂ (λ n role. annotated_as n role (bare_body f.tree)) (name-label_word a.name label_at) role_is
          ∙ ap (annotated_as a.name a.role) f.same;
    }

reads-include : (p : ℕ) (file : List ℕ) (only : Option (List SelectedTree)) → IsProperStatement (include p file only) → (at : ℕ) (rest : List Piece) → Found bare_statement IsStatement at (statement_pieces (include p file only) rest) (include p file only) rest
reads-include p file only h at rest =
    let file_at = at + 7 + 1 in
    let f = reads-selection only h.1 (file_at + length (spec.quoted file)) (end_pieces rest) in
    record {
      end = f.end + 1 + 1 + 1;
      tree = _;
      read = grammar.include_statement _ _ _ _ _ _ f.tree (keyword (codes "include") at)
          (is-word (terminal.Mark mark.Open) kind.Symbol (codes "(") (at + 7) 0 refl)
          (is-word terminal.Quoted kind.Quoted (spec.quoted file) file_at 0 refl) f.read (is_end-words f.end rest);
      same = ap₂ (include 0) (name-word kind.Quoted (spec.quoted file) file_at 0 ∙ name_in-quoted file) f.same;
    }

reads-statement : (s : StatementTree) → IsProperStatement s → (at : ℕ) (rest : List Piece) → Found bare_statement IsStatement at (statement_pieces s rest) s rest
reads-statement (annotated a) h at rest = reads-annotated a h at rest
reads-statement (include p file only) h at rest = reads-include p file only h at rest

-- a file that the pieces have
pub record FoundFile (at : ℕ) (ps : List Piece) (ss : List StatementTree) : Type 0 where
  pub tree : List StatementTree
  pub read : IsFile (words_at at ps) tree
  pub same : map bare_statement tree ≡ map bare_statement ss

pub reads-file : (ss : List StatementTree) → AreProperStatements ss → (at : ℕ) → FoundFile at (file_pieces ss) ss
reads-file [] h at = record { tree = []; read = grammar.no_statement _ (is-word terminal.End kind.End [] at 0 refl); same = refl }
reads-file (s ∷ ss) h at =
    let f = reads-statement s h.0 at (file_pieces ss) in
    let g = reads-file ss h.1 f.end in
    record { tree = f.tree ∷ g.tree; read = grammar.more_statements _ _ f.tree g.tree f.read g.read; same = ap₂ (λ x xs. x ∷ xs) f.same g.same }
