-- The pieces of formulas are read as these.
use Rattle.std.proofs.Common.{◌≡◌, ℕ, suc, ◌+◌, Bool, true, false, inl, inr, List, ◌∷◌, length, codes, refl, ap, ap₂, subst, sym}
use Rattle.thf_grammar.specs.declared.token.TokenKind.TheVariants as kind
use Rattle.thf_grammar.specs.Trees.{VarTree, FormulaTree, constant, variable, truth, operator, negation, binary, equation, application, quantified, binding}
use Rattle.thf_grammar.specs.declared.connective.Conn.{Conn}
use Rattle.thf_grammar.specs.declared.connective.Conn.TheVariants.{Not, And, Or, Imp, If, Iff, Xor, Nor, Nand}
use Rattle.thf_grammar.specs.declared.connective.Binder.{Binder}
use Rattle.thf_grammar.specs.declared.terminal.Mark.TheVariants as mark
use Rattle.thf_grammar.specs.declared.terminal.Terminal.TheVariants as terminal
use Rattle.thf_grammar.specs.Words.{Word, place, Is}
use Rattle.thf_grammar.specs.Formulas as grammar
use Rattle.thf_grammar.specs.Formulas.{IsFormulaText, AreLinks, AreArguments, IsUnit, IsOperand, IsNegation, IsUnitary, IsPrimary, IsBinder, is_chained, is_nonassoc, lone_depth}
use Rattle.thf_syntax.specs.declared.slot.Slot.{Slot}
use Rattle.thf_syntax.specs.declared.slot.Slot.TheVariants.{Primary, Unitary, Head, Operand, Member, Conjunction, Disjunction}
use Rattle.thf_syntax.specs.Slots.{takes}
use Rattle.thf_syntax.specs.Texts.{conn_text, binder_text, truth_text, equality_text, quantifier_text}
use Rattle.thf_syntax.specs.Places.{bare_formula}
use Rattle.thf_syntax.proofs.Pieces.{Piece, token, word_at, words_at}
use Rattle.thf_syntax.proofs.Printed.{space, grouped, behind_vars, behind_links, behind_arguments, infixed_pieces, formula_pieces}
use Rattle.thf_syntax.proofs.Proper.{AreProperVars, IsInfix, IsProper}
use Rattle.thf_syntax.proofs.Found.{Found, found-as, is-word, is_name-word, name-name_word, name-word, symbol-conn, symbol-binder, symbol-equality, symbol-quantifier, dollar-truth}
use Rattle.thf_syntax.proofs.Found as found
use Rattle.thf_syntax.proofs.TypeFound.{reads-vars}

abbrev Reads : (ℕ → List Word → FormulaTree → List Word → Type 0) → (ℕ → List Piece → List Piece) → FormulaTree → Type 0
Reads R pieces t = found.Reads bare_formula R pieces t

-- A formula that goes on with a link of a chain: with the link and those behind it, it is one formula.
record Starts (c : Conn) (d e : ℕ) (ws : List Word) (t : FormulaTree) (rest : List Word) : Type 0 where
  step : (w : Word) (right behind last : List Word) (u v : FormulaTree) → rest ≡ w ∷ right → Is (terminal.Conn c) (suc e) w → IsUnit (suc e) right u behind → AreLinks c (suc e) (binary (place w) c t u) behind v last → IsFormulaText d ws v last

-- the same for any number of further links
record GoesOn (c : Conn) (d e : ℕ) (ws : List Word) (t : FormulaTree) (rest : List Word) : Type 0 where
  links : (v : FormulaTree) (last : List Word) → AreLinks c e t rest v last → IsFormulaText d ws v last

starts-unit : (c : Conn) → is_chained c ≡ true → (d : ℕ) (ws : List Word) (t : FormulaTree) (rest : List Word) → IsUnit d ws t rest → Starts c d d ws t rest
starts-unit c chained d ws t rest h = record {
  step = λ w right behind last u v e is unit links. grammar.chain_formula d ws right behind last w c t u v (subst (λ r. IsUnit d ws t r) e h) is chained unit links;
}

starts-goes_on : (c : Conn) (d e : ℕ) (ws : List Word) (t : FormulaTree) (rest : List Word) → GoesOn c d e ws t rest → Starts c d e ws t rest
starts-goes_on c d e ws t rest h = record {
  step = λ w right behind last u v same is unit links.
      h.links v last (subst (λ r. AreLinks c e t r v last) (sym same) (grammar.more_links c e t u v w right behind last is unit links));
}

formula-goes_on : (c : Conn) (d e : ℕ) (ws : List Word) (t : FormulaTree) (rest : List Word) → GoesOn c d e ws t rest → IsFormulaText d ws t rest
formula-goes_on c d e ws t rest h = h.links t rest (grammar.no_links c e t rest)

-- A formula that goes on with an argument: with it and those behind it, it is one formula.
record StartsApplied (d e : ℕ) (ws : List Word) (t : FormulaTree) (rest : List Word) : Type 0 where
  step : (w : Word) (right behind last : List Word) (u v : FormulaTree) → rest ≡ w ∷ right → Is (terminal.Mark mark.At) (suc e) w → IsOperand (suc e) right u behind → AreArguments (suc e) (application (place w) t u) behind v last → IsFormulaText d ws v last

record GoesOnApplied (d e : ℕ) (ws : List Word) (t : FormulaTree) (rest : List Word) : Type 0 where
  arguments : (v : FormulaTree) (last : List Word) → AreArguments e t rest v last → IsFormulaText d ws v last

starts-unitary : (d : ℕ) (ws : List Word) (t : FormulaTree) (rest : List Word) → IsUnitary d ws t rest → StartsApplied d d ws t rest
starts-unitary d ws t rest h = record {
  step = λ w right behind last u v e is operand arguments. grammar.apply_formula d ws right behind last w t u v (subst (λ r. IsUnitary d ws t r) e h) is operand arguments;
}

starts-goes_on_applied : (d e : ℕ) (ws : List Word) (t : FormulaTree) (rest : List Word) → GoesOnApplied d e ws t rest → StartsApplied d e ws t rest
starts-goes_on_applied d e ws t rest h = record {
  step = λ w right behind last u v same is operand arguments.
      h.arguments v last (subst (λ r. AreArguments e t r v last) (sym same) (grammar.more_arguments e t u v w right behind last is operand arguments));
}

formula-goes_on_applied : (d e : ℕ) (ws : List Word) (t : FormulaTree) (rest : List Word) → GoesOnApplied d e ws t rest → IsFormulaText d ws t rest
formula-goes_on_applied d e ws t rest h = h.arguments t rest (grammar.no_arguments e t rest)

-- The pieces of a formula are read at each place of the grammar, in parentheses where it needs them. `links` and `args` say how many
-- things are open behind it, before the next link of a chain and before the next argument.
record Laws (fits : Slot → Bool) (links : Slot → ℕ → ℕ) (args : ℕ → ℕ) (pieces : ℕ → List Piece → List Piece) (t : FormulaTree) : Type 0 where
  formula : Reads IsFormulaText pieces t
  member : Reads IsUnit (grouped (fits Member) pieces) t
  operand : Reads IsOperand (grouped (fits Operand) pieces) t
  unitary : Reads IsUnitary (grouped (fits Unitary) pieces) t
  primary : Reads IsPrimary (grouped (fits Primary) pieces) t
  conjunction : Reads (λ d. Starts And d (links Conjunction d)) (grouped (fits Conjunction) pieces) t
  disjunction : Reads (λ d. Starts Or d (links Disjunction d)) (grouped (fits Disjunction) pieces) t
  head : Reads (λ d. StartsApplied d (args d)) (grouped (fits Head) pieces) t

abbrev LawsOf : FormulaTree → Type 0
LawsOf t = Laws (λ s. takes s t) (λ s. behind_links s t) (behind_arguments t) (formula_pieces t) t

module _ (pieces : ℕ → List Piece → List Piece) (t : FormulaTree) where
  unitary-primary : Reads IsPrimary pieces t → Reads IsUnitary pieces t
  unitary-primary h d at rest = found-as (λ ws u vs r. grammar.primary_unitary d ws vs u r) (h d at rest)

  unitary-binder : Reads IsBinder pieces t → Reads IsUnitary pieces t
  unitary-binder h d at rest = found-as (λ ws u vs r. grammar.binder_unitary d ws vs u r) (h d at rest)

  operand-unitary : Reads IsUnitary pieces t → Reads IsOperand pieces t
  operand-unitary h d at rest = found-as (λ ws u vs r. grammar.unitary_operand d ws vs u r) (h d at rest)

  operand-negation : Reads IsNegation pieces t → Reads IsOperand pieces t
  operand-negation h d at rest = found-as (λ ws u vs r. grammar.negation_operand d ws vs u r) (h d at rest)

  unit-unitary : Reads IsUnitary pieces t → Reads IsUnit pieces t
  unit-unitary h d at rest = found-as (λ ws u vs r. grammar.unitary_unit d ws vs u r) (h d at rest)

  unit-negation : Reads IsNegation pieces t → Reads IsUnit pieces t
  unit-negation h d at rest = found-as (λ ws u vs r. grammar.negation_unit d ws vs u r) (h d at rest)

  formula-unit : Reads IsUnit pieces t → Reads IsFormulaText pieces t
  formula-unit h d at rest = found-as (λ ws u vs r. grammar.unit_formula d ws vs u r) (h d at rest)

  chain-unit : (c : Conn) → is_chained c ≡ true → Reads IsUnit pieces t → Reads (λ d. Starts c d d) pieces t
  chain-unit c chained h d at rest = found-as (λ ws u vs r. starts-unit c chained d ws u vs r) (h d at rest)

  head-unitary : Reads IsUnitary pieces t → Reads (λ d. StartsApplied d d) pieces t
  head-unitary h d at rest = found-as (λ ws u vs r. starts-unitary d ws u vs r) (h d at rest)

  primary-grouped : Reads IsFormulaText pieces t → Reads IsPrimary (grouped false pieces) t
  primary-grouped h d at rest =
      let f = h (suc d) (at + 1 + 1) (space ∷ token kind.Symbol (codes ")") (suc d) ∷ rest) in
      record {
        end = f.end + 1 + 1;
        tree = f.tree;
        read = grammar.group_primary d _ _ _ _ f.tree (is-word (terminal.Mark mark.Open) kind.Symbol (codes "(") at (suc d) refl) f.read
            (is-word (terminal.Mark mark.Close) kind.Symbol (codes ")") (f.end + 1) (suc d) refl);
        same = f.same;
      }

module _ (pieces : ℕ → List Piece → List Piece) (t : FormulaTree) (h : Reads IsFormulaText pieces t) where
  -- a formula in parentheses
  in_parentheses : Reads IsPrimary (grouped false pieces) t
  in_parentheses = primary-grouped pieces t h

  unitary-grouped : Reads IsUnitary (grouped false pieces) t
  unitary-grouped = unitary-primary (grouped false pieces) t in_parentheses

  operand-grouped : Reads IsOperand (grouped false pieces) t
  operand-grouped = operand-unitary (grouped false pieces) t unitary-grouped

  unit-grouped : Reads IsUnit (grouped false pieces) t
  unit-grouped = unit-unitary (grouped false pieces) t unitary-grouped

  chain-grouped : (c : Conn) → is_chained c ≡ true → Reads (λ d. Starts c d d) (grouped false pieces) t
  chain-grouped c chained = chain-unit (grouped false pieces) t c chained unit-grouped

  head-grouped : Reads (λ d. StartsApplied d d) (grouped false pieces) t
  head-grouped = head-unitary (grouped false pieces) t unitary-grouped

-- a formula that stands everywhere without parentheses
laws-primary : (pieces : ℕ → List Piece → List Piece) (t : FormulaTree) → Reads IsPrimary pieces t → Laws (λ s. true) (λ s d. d) (λ d. d) pieces t
laws-primary pieces t h =
    let unitary = unitary-primary pieces t h in
    let unit = unit-unitary pieces t unitary in
    record {
      formula = formula-unit pieces t unit;
      member = unit;
      operand = operand-unitary pieces t unitary;
      unitary = unitary;
      primary = h;
      conjunction = chain-unit pieces t And refl unit;
      disjunction = chain-unit pieces t Or refl unit;
      head = head-unitary pieces t unitary;
    }

-- a formula that stands nowhere without parentheses
laws-formula : (pieces : ℕ → List Piece → List Piece) (t : FormulaTree) → Reads IsFormulaText pieces t → Laws (λ s. false) (λ s d. d) (λ d. d) pieces t
laws-formula pieces t h = record {
  formula = h;
  member = unit-grouped pieces t h;
  operand = operand-grouped pieces t h;
  unitary = unitary-grouped pieces t h;
  primary = in_parentheses pieces t h;
  conjunction = chain-grouped pieces t h And refl;
  disjunction = chain-grouped pieces t h Or refl;
  head = head-grouped pieces t h;
}

constant-primary : (p : ℕ) (n : List ℕ) → Reads IsPrimary (formula_pieces (constant p n)) (constant p n)
constant-primary p n d at rest = record {
  end = _;
  tree = _;
  read = grammar.constant_primary d _ _ (is_name-word n at d);
  same = ap (constant 0) (name-name_word n at d);
}

variable-primary : (p : ℕ) (n : List ℕ) → Reads IsPrimary (formula_pieces (variable p n)) (variable p n)
variable-primary p n d at rest = record {
  end = _;
  tree = _;
  read = grammar.variable_primary d _ _ (is-word terminal.Upper kind.Upper n at d refl);
  same = ap (variable 0) (name-word kind.Upper n at d);
}

truth-primary : (p : ℕ) (b : Bool) → Reads IsPrimary (formula_pieces (truth p b)) (truth p b)
truth-primary p b d at rest = record {
  end = _;
  tree = truth at b;
  read = grammar.truth_primary d _ _ b (is-word (terminal.Truth b) kind.Dollar (truth_text b) at d (dollar-truth b));
  same = refl;
}

operator-primary : (p : ℕ) (c : Conn) → Reads IsPrimary (formula_pieces (operator p c)) (operator p c)
operator-primary p c d at rest = record {
  end = at + 1 + length (conn_text c) + 1;
  tree = operator (at + 1) c;
  read = grammar.operator_primary d _ _ _ _ c (is-word (terminal.Mark mark.Open) kind.Symbol (codes "(") at (suc d) refl)
      (is-word (terminal.Conn c) kind.Symbol (conn_text c) (at + 1) (lone_depth c (suc d)) (symbol-conn c))
      (is-word (terminal.Mark mark.Close) kind.Symbol (codes ")") (at + 1 + length (conn_text c)) (suc d) refl);
  same = refl;
}

negation-laws : (p : ℕ) (t : FormulaTree) → LawsOf t → LawsOf (negation p t)
negation-laws p t l = record {
  formula = whole;
  member = unit-negation pieces (negation p t) negated;
  operand = operand-negation pieces (negation p t) negated;
  unitary = unitary-grouped pieces (negation p t) whole;
  primary = in_parentheses pieces (negation p t) whole;
  conjunction = chain-unit pieces (negation p t) And refl (unit-negation pieces (negation p t) negated);
  disjunction = chain-unit pieces (negation p t) Or refl (unit-negation pieces (negation p t) negated);
  head = head-grouped pieces (negation p t) whole;
}
  where
    pieces : ℕ → List Piece → List Piece
    pieces = formula_pieces (negation p t)

    negated : Reads IsNegation pieces (negation p t)
    negated d at rest =
        let f = l.operand (suc d) (at + 1 + 1) rest in
        record {
          end = f.end;
          tree = negation at f.tree;
          read = grammar.negated d _ _ _ f.tree (is-word (terminal.Conn Not) kind.Symbol (codes "~") at (suc d) refl) f.read;
          same = ap (negation 0) f.same;
        }

    whole : Reads IsFormulaText pieces (negation p t)
    whole = formula-unit pieces (negation p t) (unit-negation pieces (negation p t) negated)

equation-laws : (p : ℕ) (b : Bool) (t u : FormulaTree) → LawsOf t → LawsOf u → LawsOf (equation p b t u)
equation-laws p b t u l m = record {
  formula = formula-unit pieces (equation p b t u) equated;
  member = equated;
  operand = operand-grouped pieces (equation p b t u) whole;
  unitary = unitary-grouped pieces (equation p b t u) whole;
  primary = in_parentheses pieces (equation p b t u) whole;
  conjunction = chain-unit pieces (equation p b t u) And refl equated;
  disjunction = chain-unit pieces (equation p b t u) Or refl equated;
  head = head-grouped pieces (equation p b t u) whole;
}
  where
    pieces : ℕ → List Piece → List Piece
    pieces = formula_pieces (equation p b t u)

    equated : Reads IsUnit pieces (equation p b t u)
    equated d at rest =
        let f = l.primary d at (space ∷ token kind.Symbol (equality_text b) d ∷ space ∷ grouped (takes Unitary u) (formula_pieces u) d rest) in
        let g = m.unitary d (f.end + 1 + length (equality_text b) + 1) rest in
        record {
          end = g.end;
          tree = equation (f.end + 1) b f.tree g.tree;
          read = grammar.equation_unit d _ _ _ _ b f.tree g.tree f.read (is-word (terminal.Equality b) kind.Symbol (equality_text b) (f.end + 1) d (symbol-equality b)) g.read;
          same = ap₂ (equation 0 b) f.same g.same;
        }

    whole : Reads IsFormulaText pieces (equation p b t u)
    whole = formula-unit pieces (equation p b t u) equated

-- an operand, a connective that isn't chained, and an operand
paired : (p : ℕ) (c : Conn) (t u : FormulaTree) (left right : ℕ → List Piece → List Piece) → is_nonassoc c ≡ true → Reads IsUnit left t → Reads IsUnit right u → Reads IsFormulaText (λ d. infixed_pieces left d (conn_text c) right d) (binary p c t u)
paired p c t u left right nonassoc h k d at rest =
    let f = h d at (space ∷ token kind.Symbol (conn_text c) d ∷ space ∷ right d rest) in
    let g = k d (f.end + 1 + length (conn_text c) + 1) rest in
    record {
      end = g.end;
      tree = binary (f.end + 1) c f.tree g.tree;
      read = grammar.pair_formula d _ _ _ _ c f.tree g.tree f.read (is-word (terminal.Conn c) kind.Symbol (conn_text c) (f.end + 1) d (symbol-conn c)) nonassoc g.read;
      same = ap₂ (binary 0 c) f.same g.same;
    }

-- one more link of a chain
linked : (p : ℕ) (c : Conn) (t u : FormulaTree) (links : ℕ → ℕ) (left right : ℕ → List Piece → List Piece) → Reads (λ d. Starts c d (links d)) left t → Reads IsUnit right u
    → Reads (λ d. GoesOn c d (suc (links d))) (λ d. infixed_pieces left d (conn_text c) right (suc (links d))) (binary p c t u)
linked p c t u links left right h k d at rest =
    let e = suc (links d) in
    let f = h d at (space ∷ token kind.Symbol (conn_text c) e ∷ space ∷ right e rest) in
    let g = k e (f.end + 1 + length (conn_text c) + 1) rest in
    record {
      end = g.end;
      tree = binary (f.end + 1) c f.tree g.tree;
      read = record {
        links = λ v last more.
            f.read.step (word_at kind.Symbol (conn_text c) (f.end + 1) e) _ (words_at g.end rest) last g.tree v refl
            (is-word (terminal.Conn c) kind.Symbol (conn_text c) (f.end + 1) e (symbol-conn c)) g.read more;
      };
      same = ap₂ (binary 0 c) f.same g.same;
    }

-- one more argument
applied : (p : ℕ) (t u : FormulaTree) (args : ℕ → ℕ) (left right : ℕ → List Piece → List Piece) → Reads (λ d. StartsApplied d (args d)) left t → Reads IsOperand right u
    → Reads (λ d. GoesOnApplied d (suc (args d))) (λ d. infixed_pieces left d (codes "@") right (suc (args d))) (application p t u)
applied p t u args left right h k d at rest =
    let e = suc (args d) in
    let f = h d at (space ∷ token kind.Symbol (codes "@") e ∷ space ∷ right e rest) in
    let g = k e (f.end + 1 + 1 + 1) rest in
    record {
      end = g.end;
      tree = application (f.end + 1) f.tree g.tree;
      read = record {
        arguments = λ v last more.
            f.read.step (word_at kind.Symbol (codes "@") (f.end + 1) e) _ (words_at g.end rest) last g.tree v refl
            (is-word (terminal.Mark mark.At) kind.Symbol (codes "@") (f.end + 1) e refl) g.read more;
      };
      same = ap₂ (application 0) f.same g.same;
    }

quantifies : (p : ℕ) (b : Bool) (u : FormulaTree) → LawsOf u → Reads (λ d. GoesOnApplied d (suc d)) (formula_pieces (quantified p b u)) (quantified p b u)
quantifies p b u m d at rest =
    let there = at + length (quantifier_text b) + 1 in
    let g = m.operand (suc d) (there + 1 + 1) rest in
    record {
      end = g.end;
      tree = quantified there b g.tree;
      read = record {
        arguments = λ v last more.
            grammar.quantified_formula d _ _ _ _ last b g.tree v (is-word (terminal.Quant b) kind.Symbol (quantifier_text b) at d (symbol-quantifier b))
            (is-word (terminal.Mark mark.At) kind.Symbol (codes "@") there (suc d) refl) g.read more;
      };
      same = ap (quantified 0 b) g.same;
    }

-- a formula that is applied further without parentheses
laws-applied : (pieces : ℕ → List Piece → List Piece) (t : FormulaTree) (args : ℕ → ℕ) → Reads (λ d. GoesOnApplied d (args d)) pieces t
    → Reads IsFormulaText pieces t × Reads (λ d. StartsApplied d (args d)) pieces t
laws-applied pieces t args h = (
  λ d at rest. found-as (λ ws u vs r. formula-goes_on_applied d (args d) ws u vs r) (h d at rest),
  λ d at rest. found-as (λ ws u vs r. starts-goes_on_applied d (args d) ws u vs r) (h d at rest),
)

application-laws : (p : ℕ) (t u : FormulaTree) → LawsOf t → LawsOf u → LawsOf (application p t u)
application-laws p t u l m =
    let pieces = formula_pieces (application p t u) in
    let on = laws-applied pieces (application p t u) (λ d. suc (behind_arguments t d))
    (applied p t u (behind_arguments t) (grouped (takes Head t) (formula_pieces t)) (grouped (takes Operand u) (formula_pieces u)) l.head m.operand) in
    record {
      formula = on.0;
      member = unit-grouped pieces (application p t u) on.0;
      operand = operand-grouped pieces (application p t u) on.0;
      unitary = unitary-grouped pieces (application p t u) on.0;
      primary = in_parentheses pieces (application p t u) on.0;
      conjunction = chain-grouped pieces (application p t u) on.0 And refl;
      disjunction = chain-grouped pieces (application p t u) on.0 Or refl;
      head = on.1;
    }

quantified-laws : (p : ℕ) (b : Bool) (u : FormulaTree) → LawsOf u → LawsOf (quantified p b u)
quantified-laws p b u m =
    let pieces = formula_pieces (quantified p b u) in
    let on = laws-applied pieces (quantified p b u) (λ d. suc d) (quantifies p b u m) in
    record {
      formula = on.0;
      member = unit-grouped pieces (quantified p b u) on.0;
      operand = operand-grouped pieces (quantified p b u) on.0;
      unitary = unitary-grouped pieces (quantified p b u) on.0;
      primary = in_parentheses pieces (quantified p b u) on.0;
      conjunction = chain-grouped pieces (quantified p b u) on.0 And refl;
      disjunction = chain-grouped pieces (quantified p b u) on.0 Or refl;
      head = on.1;
    }

-- a formula that goes on with further links of its chain without parentheses
laws-linked : (pieces : ℕ → List Piece → List Piece) (t : FormulaTree) (c : Conn) (links : ℕ → ℕ) → Reads (λ d. GoesOn c d (links d)) pieces t
    → Reads IsFormulaText pieces t × Reads (λ d. Starts c d (links d)) pieces t
laws-linked pieces t c links h = (
  λ d at rest. found-as (λ ws u vs r. formula-goes_on c d (links d) ws u vs r) (h d at rest),
  λ d at rest. found-as (λ ws u vs r. starts-goes_on c d (links d) ws u vs r) (h d at rest),
)

conjunction-laws : (p : ℕ) (t u : FormulaTree) → LawsOf t → LawsOf u → LawsOf (binary p And t u)
conjunction-laws p t u l m =
    let pieces = formula_pieces (binary p And t u) in
    let on = laws-linked pieces (binary p And t u) And (λ d. suc (behind_links Conjunction t d))
    (linked p And t u (behind_links Conjunction t) (grouped (takes Conjunction t) (formula_pieces t)) (grouped (takes Member u) (formula_pieces u)) l.conjunction m.member) in
    record {
      formula = on.0;
      member = unit-grouped pieces (binary p And t u) on.0;
      operand = operand-grouped pieces (binary p And t u) on.0;
      unitary = unitary-grouped pieces (binary p And t u) on.0;
      primary = in_parentheses pieces (binary p And t u) on.0;
      conjunction = on.1;
      disjunction = chain-grouped pieces (binary p And t u) on.0 Or refl;
      head = head-grouped pieces (binary p And t u) on.0;
    }

disjunction-laws : (p : ℕ) (t u : FormulaTree) → LawsOf t → LawsOf u → LawsOf (binary p Or t u)
disjunction-laws p t u l m =
    let pieces = formula_pieces (binary p Or t u) in
    let on = laws-linked pieces (binary p Or t u) Or (λ d. suc (behind_links Disjunction t d))
    (linked p Or t u (behind_links Disjunction t) (grouped (takes Disjunction t) (formula_pieces t)) (grouped (takes Member u) (formula_pieces u)) l.disjunction m.member) in
    record {
      formula = on.0;
      member = unit-grouped pieces (binary p Or t u) on.0;
      operand = operand-grouped pieces (binary p Or t u) on.0;
      unitary = unitary-grouped pieces (binary p Or t u) on.0;
      primary = in_parentheses pieces (binary p Or t u) on.0;
      conjunction = chain-grouped pieces (binary p Or t u) on.0 And refl;
      disjunction = on.1;
      head = head-grouped pieces (binary p Or t u) on.0;
    }

paired-laws : (p : ℕ) (c : Conn) (t u : FormulaTree) → is_nonassoc c ≡ true → LawsOf t → LawsOf u
    → Laws (λ s. false) (λ s d. d) (λ d. d) (λ d. infixed_pieces (grouped (takes Member t) (formula_pieces t)) d (conn_text c) (grouped (takes Member u) (formula_pieces u)) d) (binary p c t u)
paired-laws p c t u nonassoc l m =
    laws-formula _ (binary p c t u) (paired p c t u (grouped (takes Member t) (formula_pieces t)) (grouped (takes Member u) (formula_pieces u)) nonassoc l.member m.member)

binary-laws : (p : ℕ) (c : Conn) (t u : FormulaTree) → IsInfix c → LawsOf t → LawsOf u → LawsOf (binary p c t u)
binary-laws p Not t u (inl h) l m = cc
binary-laws p Not t u (inr h) l m = cc
binary-laws p And t u h l m = conjunction-laws p t u l m
binary-laws p Or t u h l m = disjunction-laws p t u l m
binary-laws p Imp t u h l m = paired-laws p Imp t u refl l m
binary-laws p If t u h l m = paired-laws p If t u refl l m
binary-laws p Iff t u h l m = paired-laws p Iff t u refl l m
binary-laws p Xor t u h l m = paired-laws p Xor t u refl l m
binary-laws p Nor t u h l m = paired-laws p Nor t u refl l m
binary-laws p Nand t u h l m = paired-laws p Nand t u refl l m

binding-laws : (p : ℕ) (b : Binder) (vs : List VarTree) (t : FormulaTree) → AreProperVars b vs → LawsOf t → LawsOf (binding p b vs t)
binding-laws p b vs t proper l = record {
  formula = whole;
  member = unit-unitary pieces (binding p b vs t) unitary;
  operand = operand-unitary pieces (binding p b vs t) unitary;
  unitary = unitary;
  primary = in_parentheses pieces (binding p b vs t) whole;
  conjunction = chain-unit pieces (binding p b vs t) And refl (unit-unitary pieces (binding p b vs t) unitary);
  disjunction = chain-unit pieces (binding p b vs t) Or refl (unit-unitary pieces (binding p b vs t) unitary);
  head = head-unitary pieces (binding p b vs t) unitary;
}
  where
    pieces : ℕ → List Piece → List Piece
    pieces = formula_pieces (binding p b vs t)

    bound : Reads IsBinder pieces (binding p b vs t)
    bound d at rest =
        let e = behind_vars vs d in
        let start = at + length (binder_text b) + 1 in
        let f = reads-vars b vs proper d (start + 1)
        (token kind.Symbol (codes "]") (suc e) ∷ space ∷ token kind.Symbol (codes ":") e ∷ space ∷ grouped (takes Member t) (formula_pieces t) e rest) in
        let g = l.member e (f.end + 1 + 1 + 1 + 1) rest in
        record {
          end = g.end;
          tree = binding at b f.vars g.tree;
          read = grammar.bound d e _ _ _ _ _ _ _ b f.vars g.tree (is-word (terminal.Binder b) kind.Symbol (binder_text b) at d (symbol-binder b))
              (is-word (terminal.Mark mark.OpenList) kind.Symbol (codes "[") start (suc d) refl) f.read
              (is-word (terminal.Mark mark.CloseList) kind.Symbol (codes "]") f.end (suc e) refl)
              (is-word (terminal.Mark mark.Colon) kind.Symbol (codes ":") (f.end + 1 + 1) e refl) g.read;
          same = ap₂ (binding 0 b) f.same g.same;
        }

    unitary : Reads IsUnitary pieces (binding p b vs t)
    unitary = unitary-binder pieces (binding p b vs t) bound

    whole : Reads IsFormulaText pieces (binding p b vs t)
    whole = formula-unit pieces (binding p b vs t) (unit-unitary pieces (binding p b vs t) unitary)

formula-laws : (t : FormulaTree) → IsProper t → LawsOf t
formula-laws (constant p n) h = laws-primary (formula_pieces (constant p n)) (constant p n) (constant-primary p n)
formula-laws (variable p n) h = laws-primary (formula_pieces (variable p n)) (variable p n) (variable-primary p n)
formula-laws (truth p b) h = laws-primary (formula_pieces (truth p b)) (truth p b) (truth-primary p b)
formula-laws (operator p c) h = laws-primary (formula_pieces (operator p c)) (operator p c) (operator-primary p c)
formula-laws (negation p t) h = negation-laws p t (formula-laws t h)
formula-laws (binary p c t u) h = binary-laws p c t u h.0 (formula-laws t h.1) (formula-laws u h.2)
formula-laws (equation p b t u) h = equation-laws p b t u (formula-laws t h.0) (formula-laws u h.1)
formula-laws (application p t u) h = application-laws p t u (formula-laws t h.0) (formula-laws u h.1)
formula-laws (quantified p b u) h = quantified-laws p b u (formula-laws u h)
formula-laws (binding p b vs t) h = binding-laws p b vs t h.0 (formula-laws t h.1)

pub reads-formula : (t : FormulaTree) → IsProper t → Reads IsFormulaText (formula_pieces t) t
reads-formula t h = (formula-laws t h).formula
