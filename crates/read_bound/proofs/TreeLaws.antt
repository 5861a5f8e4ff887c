-- Trees of tokens that aren't too deep have types that nest no deeper.
use Rattle.std.proofs.Common.{◌≡◌, ◌≤◌, ◌+◌, ℕ, suc, max, Option, List, length, arith}
use Rattle.thf_grammar.specs.Trees.{TypeTree, VarTree, FormulaTree, BodyTree, StatementTree}
use Rattle.thf_grammar.specs.Trees as tree
use Rattle.thf_grammar.specs.declared.connective.Conn.{Conn}
use Rattle.thf_grammar.specs.declared.connective.Binder.{Binder}
use Rattle.thf_grammar.specs.Words.{Word}
use Rattle.thf_grammar.specs.Types.{IsType, simple_type, arrow_type, IsSimpleType, indiv_type, form_type, named_type, group_type, IsVar, plain_var, typed_var}
use Rattle.thf_grammar.specs.Formulas.{AreVars, last_var, more_vars, IsFormulaText, unit_formula, pair_formula, chain_formula, apply_formula, quantified_formula, AreLinks, no_links, more_links, AreArguments, no_arguments, more_arguments, IsUnit, unitary_unit, negation_unit, equation_unit, IsOperand, unitary_operand, negation_operand, IsNegation, negated, IsUnitary, primary_unitary, binder_unitary, IsPrimary, constant_primary, variable_primary, truth_primary, group_primary, operator_primary, IsBinder, bound}
use Rattle.thf_grammar.specs.Notes.{IsGeneral, data_general, pair_general, empty_general, list_general, AreGenerals, last_general, more_generals, IsData, name_data, call_data, upper_data, integer_data, distinct_data, AreNotes, no_notes, one_note, two_notes}
use Rattle.thf_grammar.specs.Statements.{IsTyping, base_typing, constant_typing, group_typing, IsBody, typing_body, formula_body, AreLabels, last_label, more_labels, IsSelection, everything, only, IsEnd, ends, IsStatement, annotated_statement, include_statement, IsFile, no_statement, more_statements}
use Rattle.thf_parse.specs.Parsing.{AreWithinDepth}
use Rattle.tableau_calculus.specs.Each.{Each}
use Rattle.read_bound.specs.Read.{nest, binders, AreShallowVars, HasShallowVars, IsShallowBody, IsShallowStatement}

module _ (limit : ℕ) where
  abbrev W : List Word → Type 0
  W ws = AreWithinDepth limit ws

  mutual
    type_within : {d : ℕ} {ws : List Word} {t : TypeTree} {rest : List Word} → IsType d ws t rest → W ws → (nest t + d ≤ max limit d) × W rest
    type_within (simple_type d ws rest t s) h = let r = simple_within s h in (omega (arith, r.0), r.1)
    type_within (arrow_type d ws right rest w t u s is k) h =
        let left = simple_within s h in
        let r = type_within k left.1.1 in
        let deep = is.deep in
        let inside = left.1.0 in
        (omega (arith, left.0, r.0, deep, inside), r.1)

    simple_within : {d : ℕ} {ws : List Word} {t : TypeTree} {rest : List Word} → IsSimpleType d ws t rest → W ws → (nest t + suc d ≤ max limit (suc d)) × W rest
    simple_within (indiv_type d w rest is) h = (omega arith, h.1)
    simple_within (form_type d w rest is) h = (omega arith, h.1)
    simple_within (named_type d w rest is) h = (omega arith, h.1)
    simple_within (group_type d w v inside rest t is k close) h = let r = type_within k h.1 in (r.0, r.1.1)

  var_within : {d : ℕ} {ws : List Word} {v : VarTree} {rest : List Word} → IsVar d ws v rest → W ws → (nest v.ty + d ≤ max limit d) × W rest
  var_within (plain_var d w rest is) h = (omega arith, h.1)
  var_within (typed_var d w v inside rest t is colon k) h = type_within k h.1.1

  vars_within : {b : Binder} {d : ℕ} {ws : List Word} {vs : List VarTree} {e : ℕ} {rest : List Word} → AreVars b d ws vs e rest → W ws → (e ≡ length vs + d) × (AreShallowVars limit vs × W rest)
  vars_within (last_var d ws rest v k) h =
      let r = var_within k h in
      let shallow : nest v.ty ≤ limit = omega (arith, r.0) in
      (omega arith, ((shallow, tt), r.1))
  vars_within (more_vars d e ws behind rest w v vs k many comma later) h =
      let r = var_within k h in
      let shallow : nest v.ty ≤ limit = omega (arith, r.0) in
      let more = vars_within later r.1.1 in
      (omega (arith, more.0), ((shallow, more.1.0), more.1.1))

  -- what holds of the tree of a part that begins at a depth
  abbrev P : ℕ → FormulaTree → Type 0
  P d t = (binders t + d ≤ max limit d) × HasShallowVars limit t

  higher : (d e : ℕ) (t : FormulaTree) → d ≤ e → P e t → P d t
  higher d e t less h = (omega (arith, less, h.0), h.1)

  both : (d : ℕ) (t u : FormulaTree) → P d t → P d u → max (binders t) (binders u) + d ≤ max limit d
  both d t u h k = omega (arith, h.0, k.0)

  mutual
    formula_within : {d : ℕ} {ws : List Word} {t : FormulaTree} {rest : List Word} → IsFormulaText d ws t rest → W ws → P d t × W rest
    formula_within (unit_formula d ws rest t k) h = unit_within k h
    formula_within (pair_formula d ws right rest w c t u k is non l) h =
        let left = unit_within k h in
        let r = unit_within l left.1.1 in
        ((both d t u left.0 r.0, (left.0.1, r.0.1)), r.1)
    formula_within (chain_formula d ws right behind rest w c t u v k is chained l links) h =
        let left = unit_within k h in
        let r = unit_within l left.1.1 in
        let second = higher d (suc d) u (omega arith) r.0 in
        links_within d links (omega arith) (both d t u left.0 second, (left.0.1, second.1)) r.1
    formula_within (apply_formula d ws right behind rest w t u v k is l arguments) h =
        let left = unitary_within k h in
        let r = operand_within l left.1.1 in
        let second = higher d (suc d) u (omega arith) r.0 in
        arguments_within d arguments (omega arith) (both d t u left.0 second, (left.0.1, second.1)) r.1
    formula_within (quantified_formula d q w right behind rest all u v quant is l arguments) h =
        let r = operand_within l h.1.1 in
        let second = higher d (suc d) u (omega arith) r.0 in
        arguments_within d arguments (omega arith) second r.1

    links_within : (from : ℕ) {c : Conn} {d : ℕ} {t : FormulaTree} {ws : List Word} {v : FormulaTree} {rest : List Word} → AreLinks c d t ws v rest → from ≤ d → P from t → W ws → P from v × W rest
    links_within from (no_links c d t rest) less p h = (p, h)
    links_within from (more_links c d t u v w right behind rest is k links) less p h =
        let r = unit_within k h.1 in
        let second = higher from (suc d) u (omega (arith, less)) r.0 in
        links_within from links (omega (arith, less)) (both from t u p second, (p.1, second.1)) r.1

    arguments_within : (from : ℕ) {d : ℕ} {t : FormulaTree} {ws : List Word} {v : FormulaTree} {rest : List Word} → AreArguments d t ws v rest → from ≤ d → P from t → W ws → P from v × W rest
    arguments_within from (no_arguments d t rest) less p h = (p, h)
    arguments_within from (more_arguments d t u v w right behind rest is k arguments) less p h =
        let r = operand_within k h.1 in
        let second = higher from (suc d) u (omega (arith, less)) r.0 in
        arguments_within from arguments (omega (arith, less)) (both from t u p second, (p.1, second.1)) r.1

    unit_within : {d : ℕ} {ws : List Word} {t : FormulaTree} {rest : List Word} → IsUnit d ws t rest → W ws → P d t × W rest
    unit_within (unitary_unit d ws rest t k) h = unitary_within k h
    unit_within (negation_unit d ws rest t k) h = negation_within k h
    unit_within (equation_unit d ws right rest w positive t u k is l) h =
        let left = primary_within k h in
        let r = unitary_within l left.1.1 in
        ((both d t u left.0 r.0, (left.0.1, r.0.1)), r.1)

    operand_within : {d : ℕ} {ws : List Word} {t : FormulaTree} {rest : List Word} → IsOperand d ws t rest → W ws → P d t × W rest
    operand_within (unitary_operand d ws rest t k) h = unitary_within k h
    operand_within (negation_operand d ws rest t k) h = negation_within k h

    negation_within : {d : ℕ} {ws : List Word} {t : FormulaTree} {rest : List Word} → IsNegation d ws t rest → W ws → P d t × W rest
    negation_within (negated d w inside rest t is k) h = let r = operand_within k h.1 in (higher d (suc d) t (omega arith) r.0, r.1)

    unitary_within : {d : ℕ} {ws : List Word} {t : FormulaTree} {rest : List Word} → IsUnitary d ws t rest → W ws → P d t × W rest
    unitary_within (primary_unitary d ws rest t k) h = primary_within k h
    unitary_within (binder_unitary d ws rest t k) h = binder_within k h

    primary_within : {d : ℕ} {ws : List Word} {t : FormulaTree} {rest : List Word} → IsPrimary d ws t rest → W ws → P d t × W rest
    primary_within (constant_primary d w rest is) h = ((omega arith, tt), h.1)
    primary_within (variable_primary d w rest is) h = ((omega arith, tt), h.1)
    primary_within (truth_primary d w rest value is) h = ((omega arith, tt), h.1)
    primary_within (group_primary d w v inside rest t is k close) h = let r = formula_within k h.1 in (higher d (suc d) t (omega arith) r.0, r.1.1)
    primary_within (operator_primary d w o v rest c is lone close) h = ((omega arith, tt), h.1.1.1)

    binder_within : {d : ℕ} {ws : List Word} {t : FormulaTree} {rest : List Word} → IsBinder d ws t rest → W ws → P d t × W rest
    binder_within (bound d e w opening closing colon ws body rest b vs t is opens vars close mark k) h =
        let v = vars_within vars h.1.1 in
        let inside = v.1.1 in
        let r = unit_within k inside.1.1 in
        let deep = close.deep in
        let first = inside.0 in
        ((omega (arith, v.0, r.0.0, deep, first), (v.1.0, r.0.1)), r.1)

  -- NOTES

  mutual
    general_within : {d : ℕ} {ws rest : List Word} → IsGeneral d ws rest → W ws → W rest
    general_within (data_general d ws rest k) h = data_within k h
    general_within (pair_general d ws right rest w k is l) h = general_within l (data_within k h).1
    general_within (empty_general d w v rest is close) h = h.1.1
    general_within (list_general d w v inside rest is k close) h = (generals_within k h.1).1

    generals_within : {d : ℕ} {ws rest : List Word} → AreGenerals d ws rest → W ws → W rest
    generals_within (last_general d ws rest k) h = general_within k h
    generals_within (more_generals d ws right rest w k is l) h = generals_within l (general_within k h).1

    data_within : {d : ℕ} {ws rest : List Word} → IsData d ws rest → W ws → W rest
    data_within (name_data d w rest is) h = h.1
    data_within (call_data d w o v inside rest is opens k close) h = (generals_within k h.1.1).1
    data_within (upper_data d w rest is) h = h.1
    data_within (integer_data d w rest is) h = h.1
    data_within (distinct_data d w rest is) h = h.1

  notes_within : {ws rest : List Word} → AreNotes ws rest → W ws → W rest
  notes_within (no_notes rest) h = h
  notes_within (one_note w ws rest is k) h = general_within k h.1
  notes_within (two_notes w v ws mid rest is k comma l) h = general_within l (general_within k h.1).1

  -- STATEMENTS

  typing_within : {d : ℕ} {ws : List Word} {b : BodyTree} {rest : List Word} → IsTyping d ws b rest → W ws → IsShallowBody limit b × W rest
  typing_within (base_typing d w v k rest is colon types) h = (tt, h.1.1.1)
  typing_within (constant_typing d w v ws rest t is colon k) h =
      let r = type_within k h.1.1 in
      let shallow : nest t ≤ limit = omega (arith, r.0) in
      (shallow, r.1)
  typing_within (group_typing d w v ws rest b is k close) h = let r = typing_within k h.1 in (r.0, r.1.1)

  body_within : {role : List ℕ} {ws : List Word} {b : BodyTree} {rest : List Word} → IsBody role ws b rest → W ws → IsShallowBody limit b × W rest
  body_within (typing_body ws rest b is k) h = typing_within k h
  body_within (formula_body ws rest t is k) h =
      let r = formula_within k h in
      let few : binders t ≤ limit = omega (arith, r.0.0) in
      ((few, r.0.1), r.1)

  end_within : {ws rest : List Word} → IsEnd ws rest → W ws → W rest
  end_within (ends w v rest close stop) h = h.1.1

  labels_within : {ws : List Word} {labels : List tree.SelectedTree} {rest : List Word} → AreLabels ws labels rest → W ws → W rest
  labels_within (last_label w rest is) h = h.1
  labels_within (more_labels w v ws rest labels is comma k) h = labels_within k h.1.1

  selection_within : {ws : List Word} {labels : Option (List tree.SelectedTree)} {rest : List Word} → IsSelection ws labels rest → W ws → W rest
  selection_within (everything rest) h = h
  selection_within (only w v u ws rest labels comma opens k close) h = (labels_within k h.1.1).1

  statement_within : {ws : List Word} {s : StatementTree} {rest : List Word} → IsStatement ws s rest → W ws → IsShallowStatement limit s × W rest
  statement_within (annotated_statement k o l c r e ws mid behind rest b key opens label comma role comma_too body notes end) h =
      let found = body_within body h.1.1.1.1.1.1 in
      (found.0, end_within end (notes_within notes found.1))
  statement_within (include_statement k o f ws behind rest labels key opens quoted selection end) h = (tt, end_within end (selection_within selection h.1.1.1))

  pub file_within : {ws : List Word} {ss : List StatementTree} → IsFile ws ss → W ws → Each (IsShallowStatement limit) ss
  file_within (no_statement w is) h = tt
  file_within (more_statements ws rest s ss k file) h = let r = statement_within k h in (r.0, file_within file r.1)
