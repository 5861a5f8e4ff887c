-- The pieces of types and variables are read as these.
use Rattle.std.proofs.Common.{◌≡◌, ℕ, suc, ◌+◌, Bool, true, false, List, [], ◌∷◌, length, map, codes, refl, ap, ap₂}
use Rattle.thf_grammar.specs.declared.token.TokenKind.TheVariants as kind
use Rattle.thf_grammar.specs.Trees.{TypeTree, form, indiv, named, arrow, VarTree}
use Rattle.thf_grammar.specs.declared.connective.Binder.{Binder}
use Rattle.thf_grammar.specs.declared.terminal.Mark.TheVariants as mark
use Rattle.thf_grammar.specs.declared.terminal.Terminal.TheVariants as terminal
use Rattle.thf_grammar.specs.Words.{name}
use Rattle.thf_grammar.specs.Types.{IsType, simple_type, arrow_type, IsSimpleType, indiv_type, form_type, named_type, group_type, IsVar, typed_var}
use Rattle.thf_grammar.specs.Formulas.{AreVars, last_var, more_vars}
use Rattle.thf_syntax.specs.Slots.{is_simple}
use Rattle.thf_syntax.specs.Places.{bare_type, bare_var}
use Rattle.thf_syntax.proofs.Pieces.{Piece, token, word_at, words_at}
use Rattle.thf_syntax.proofs.Printed.{space, grouped, type_pieces, var_pieces, vars_pieces, behind_vars}
use Rattle.thf_syntax.proofs.Proper.{AreProperVars}
use Rattle.thf_syntax.proofs.Found.{Reads, found-as, is-word, is_name-word, name-name_word, name-word}

simple-grouped : (pieces : ℕ → List Piece → List Piece) (t : TypeTree) → Reads bare_type IsType pieces t → Reads bare_type IsSimpleType (grouped false pieces) t
simple-grouped pieces t h d at rest =
    let f = h (suc d) (at + 1 + 1) (space ∷ token kind.Symbol (codes ")") (suc d) ∷ rest) in
    record {
      end = f.end + 1 + 1;
      tree = f.tree;
      read = group_type d _ _ _ _ f.tree (is-word (terminal.Mark mark.Open) kind.Symbol (codes "(") at (suc d) refl) f.read
          (is-word (terminal.Mark mark.Close) kind.Symbol (codes ")") (f.end + 1) (suc d) refl);
      same = f.same;
    }

whole-simple : (pieces : ℕ → List Piece → List Piece) (t : TypeTree) → Reads bare_type IsSimpleType pieces t → Reads bare_type IsType pieces t
whole-simple pieces t h d at rest = found-as (λ ws u vs r. simple_type d ws vs u r) (h d at rest)

record TypeLaws (b : Bool) (pieces : ℕ → List Piece → List Piece) (t : TypeTree) : Type 0 where
  whole : Reads bare_type IsType pieces t
  simple : Reads bare_type IsSimpleType (grouped b pieces) t

simple-laws : (pieces : ℕ → List Piece → List Piece) (t : TypeTree) → Reads bare_type IsSimpleType pieces t → TypeLaws true pieces t
simple-laws pieces t h = record { whole = whole-simple pieces t h; simple = h }

form-simple : (at' : ℕ) → Reads bare_type IsSimpleType (type_pieces (form at')) (form at')
form-simple at' d at rest = record {
  end = at + length (codes "$o");
  tree = form at;
  read = form_type d _ _ (is-word terminal.Form kind.Dollar (codes "$o") at d refl);
  same = refl;
}

indiv-simple : (at' : ℕ) → Reads bare_type IsSimpleType (type_pieces (indiv at')) (indiv at')
indiv-simple at' d at rest = record {
  end = at + length (codes "$i");
  tree = indiv at;
  read = indiv_type d _ _ (is-word terminal.Indiv kind.Dollar (codes "$i") at d refl);
  same = refl;
}

named-simple : (at' : ℕ) (n : List ℕ) → Reads bare_type IsSimpleType (type_pieces (named at' n)) (named at' n)
named-simple at' n d at rest = record {
  end = _;
  tree = _;
  read = named_type d _ _ (is_name-word n at d);
  same = ap (named 0) (name-name_word n at d);
}

arrow-whole : (at' : ℕ) (from to : TypeTree) → Reads bare_type IsSimpleType (grouped (is_simple from) (type_pieces from)) from → Reads bare_type IsType (type_pieces to) to → Reads bare_type IsType (type_pieces (arrow at' from to)) (arrow at' from to)
arrow-whole at' from to h k d at rest =
    let f = h d at (space ∷ token kind.Symbol (codes ">") (suc d) ∷ space ∷ type_pieces to (suc d) rest) in
    let g = k (suc d) (f.end + 1 + 1 + 1) rest in
    record {
      end = g.end;
      tree = arrow (f.end + 1) f.tree g.tree;
      read = arrow_type d _ _ _ _ f.tree g.tree f.read (is-word (terminal.Mark mark.Arrow) kind.Symbol (codes ">") (f.end + 1) (suc d) refl) g.read;
      same = ap₂ (arrow 0) f.same g.same;
    }

type-laws : (t : TypeTree) → TypeLaws (is_simple t) (type_pieces t) t
type-laws (form at) = simple-laws (type_pieces (form at)) (form at) (form-simple at)
type-laws (indiv at) = simple-laws (type_pieces (indiv at)) (indiv at) (indiv-simple at)
type-laws (named at n) = simple-laws (type_pieces (named at n)) (named at n) (named-simple at n)
type-laws (arrow at from to) =
    let whole = arrow-whole at from to (type-laws from).simple (type-laws to).whole in
    record { whole = whole; simple = simple-grouped (type_pieces (arrow at from to)) (arrow at from to) whole }

pub reads-type : (t : TypeTree) → Reads bare_type IsType (type_pieces t) t
reads-type t = (type-laws t).whole

reads-var : (v : VarTree) → Reads bare_var IsVar (var_pieces v) v
reads-var v d at rest =
    let f = reads-type v.ty d (at + length v.name + 1 + 1) rest in
    record {
      end = f.end;
      tree = record { at = at; name = name (word_at kind.Upper v.name at d); ty = f.tree };
      read = typed_var d _ _ _ _ f.tree (is-word terminal.Upper kind.Upper v.name at d refl)
          (is-word (terminal.Mark mark.Colon) kind.Symbol (codes ":") (at + length v.name) d refl) f.read;
      same = ap₂ (λ n ty. record { at = 0; name = n; ty = ty }) (name-word kind.Upper v.name at d) f.same;
    }

-- the variables of a binder
pub record FoundVars (b : Binder) (d at : ℕ) (ps : List Piece) (vs : List VarTree) (rest : List Piece) : Type 0 where
  pub end : ℕ
  pub vars : List VarTree
  pub read : AreVars b d (words_at at ps) vars (behind_vars vs d) (words_at end rest)
  pub same : map bare_var vars ≡ map bare_var vs

pub reads-vars : (b : Binder) (vs : List VarTree) → AreProperVars b vs → (d at : ℕ) (rest : List Piece) → FoundVars b d at (vars_pieces vs d rest) vs rest
reads-vars b [] h d at rest = absurd h
reads-vars b (v ∷ []) h d at rest =
    let f = reads-var v (suc (suc d)) at rest in
    record {
      end = f.end;
      vars = f.tree ∷ [];
      read = last_var d _ _ f.tree f.read;
      same = ap (λ u. u ∷ []) f.same;
    }
reads-vars b (v ∷ u ∷ vs) h d at rest =
    let f = reads-var v (suc (suc d)) at (token kind.Symbol (codes ",") (suc (suc d)) ∷ space ∷ vars_pieces (u ∷ vs) (suc d) rest) in
    let g = reads-vars b (u ∷ vs) h.2 (suc d) (f.end + 1 + 1) rest in
    record {
      end = g.end;
      vars = f.tree ∷ g.vars;
      read = more_vars d _ _ _ _ _ f.tree g.vars f.read h.1 (is-word (terminal.Mark mark.Comma) kind.Symbol (codes ",") f.end (suc (suc d)) refl) g.read;
      same = ap₂ (λ x xs. x ∷ xs) f.same g.same;
    }
