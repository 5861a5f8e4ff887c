-- What holds of all tokens holds of those that are left behind what is read.
use Rattle.std.proofs.Common.{ℕ, List, Option}
use Rattle.std.specs.List.{AllByRecursion}
use Rattle.thf_grammar.specs.Trees.{TypeTree, VarTree, FormulaTree, BodyTree, SelectedTree, StatementTree}
use Rattle.thf_grammar.specs.declared.connective.Conn.{Conn}
use Rattle.thf_grammar.specs.declared.connective.Binder.{Binder}
use Rattle.thf_grammar.specs.Words.{Word}
use Rattle.thf_grammar.specs.Types.{IsType, IsSimpleType, IsVar, simple_type, arrow_type, indiv_type, form_type, named_type, group_type, plain_var, typed_var}
use Rattle.thf_grammar.specs.Formulas.{AreVars, IsFormulaText, AreLinks, AreArguments, IsUnit, IsOperand, IsNegation, IsUnitary, IsPrimary, IsBinder, last_var, more_vars, unit_formula, pair_formula, chain_formula, apply_formula, quantified_formula, no_links, more_links, no_arguments, more_arguments, unitary_unit, negation_unit, equation_unit, unitary_operand, negation_operand, negated, primary_unitary, binder_unitary, constant_primary, variable_primary, truth_primary, group_primary, operator_primary, bound}
use Rattle.thf_grammar.specs.Notes.{IsGeneral, AreGenerals, IsData, AreNotes, data_general, pair_general, empty_general, list_general, last_general, more_generals, name_data, call_data, upper_data, integer_data, distinct_data, no_notes, one_note, two_notes}
use Rattle.thf_grammar.specs.Statements.{IsTyping, IsBody, AreLabels, IsSelection, IsEnd, IsStatement, base_typing, constant_typing, group_typing, typing_body, formula_body, last_label, more_labels, everything, only, ends, annotated_statement, include_statement}

module _ (P : Word → Type 0) where
  abbrev pub Each : List Word → Type 0
  Each ws = AllByRecursion P ws

  mutual
    pub left-type : {d : ℕ} {ws rest : List Word} {t : TypeTree} → IsType d ws t rest → Each ws → Each rest
    left-type (simple_type _ _ _ _ h) e = left-simple h e
    left-type (arrow_type _ _ _ _ _ _ _ h _ k) e = left-type k (left-simple h e).1

    left-simple : {d : ℕ} {ws rest : List Word} {t : TypeTree} → IsSimpleType d ws t rest → Each ws → Each rest
    left-simple (indiv_type _ _ _ _) e = e.1
    left-simple (form_type _ _ _ _) e = e.1
    left-simple (named_type _ _ _ _) e = e.1
    left-simple (group_type _ _ _ _ _ _ _ h _) e = (left-type h e.1).1

  left-var : {d : ℕ} {ws rest : List Word} {v : VarTree} → IsVar d ws v rest → Each ws → Each rest
  left-var (plain_var _ _ _ _) e = e.1
  left-var (typed_var _ _ _ _ _ _ _ _ h) e = left-type h e.1.1

  left-vars : {b : Binder} {d o : ℕ} {ws rest : List Word} {vs : List VarTree} → AreVars b d ws vs o rest → Each ws → Each rest
  left-vars (last_var _ _ _ _ h) e = left-var h e
  left-vars (more_vars _ _ _ _ _ _ _ _ h _ _ k) e = left-vars k (left-var h e).1

  mutual
    pub left-formula : {d : ℕ} {ws rest : List Word} {t : FormulaTree} → IsFormulaText d ws t rest → Each ws → Each rest
    left-formula (unit_formula _ _ _ _ h) e = left-unit h e
    left-formula (pair_formula _ _ _ _ _ _ _ _ h _ _ k) e = left-unit k (left-unit h e).1
    left-formula (chain_formula _ _ _ _ _ _ _ _ _ _ h _ _ k g) e = left-links g (left-unit k (left-unit h e).1)
    left-formula (apply_formula _ _ _ _ _ _ _ _ _ h _ k g) e = left-arguments g (left-operand k (left-unitary h e).1)
    left-formula (quantified_formula _ _ _ _ _ _ _ _ _ _ _ k g) e = left-arguments g (left-operand k e.1.1)

    left-links : {c : Conn} {d : ℕ} {t u : FormulaTree} {ws rest : List Word} → AreLinks c d t ws u rest → Each ws → Each rest
    left-links (no_links _ _ _ _) e = e
    left-links (more_links _ _ _ _ _ _ _ _ _ _ h k) e = left-links k (left-unit h e.1)

    left-arguments : {d : ℕ} {t u : FormulaTree} {ws rest : List Word} → AreArguments d t ws u rest → Each ws → Each rest
    left-arguments (no_arguments _ _ _) e = e
    left-arguments (more_arguments _ _ _ _ _ _ _ _ _ h k) e = left-arguments k (left-operand h e.1)

    left-unit : {d : ℕ} {ws rest : List Word} {t : FormulaTree} → IsUnit d ws t rest → Each ws → Each rest
    left-unit (unitary_unit _ _ _ _ h) e = left-unitary h e
    left-unit (negation_unit _ _ _ _ h) e = left-negation h e
    left-unit (equation_unit _ _ _ _ _ _ _ _ h _ k) e = left-unitary k (left-primary h e).1

    left-operand : {d : ℕ} {ws rest : List Word} {t : FormulaTree} → IsOperand d ws t rest → Each ws → Each rest
    left-operand (unitary_operand _ _ _ _ h) e = left-unitary h e
    left-operand (negation_operand _ _ _ _ h) e = left-negation h e

    left-negation : {d : ℕ} {ws rest : List Word} {t : FormulaTree} → IsNegation d ws t rest → Each ws → Each rest
    left-negation (negated _ _ _ _ _ _ h) e = left-operand h e.1

    left-unitary : {d : ℕ} {ws rest : List Word} {t : FormulaTree} → IsUnitary d ws t rest → Each ws → Each rest
    left-unitary (primary_unitary _ _ _ _ h) e = left-primary h e
    left-unitary (binder_unitary _ _ _ _ h) e = left-binder h e

    left-primary : {d : ℕ} {ws rest : List Word} {t : FormulaTree} → IsPrimary d ws t rest → Each ws → Each rest
    left-primary (constant_primary _ _ _ _) e = e.1
    left-primary (variable_primary _ _ _ _) e = e.1
    left-primary (truth_primary _ _ _ _ _) e = e.1
    left-primary (group_primary _ _ _ _ _ _ _ h _) e = (left-formula h e.1).1
    left-primary (operator_primary _ _ _ _ _ _ _ _ _) e = e.1.1.1

    left-binder : {d : ℕ} {ws rest : List Word} {t : FormulaTree} → IsBinder d ws t rest → Each ws → Each rest
    left-binder (bound _ _ _ _ _ _ _ _ _ _ _ _ _ _ h _ _ k) e = left-unit k (left-vars h e.1.1).1.1

  mutual
    left-general : {d : ℕ} {ws rest : List Word} → IsGeneral d ws rest → Each ws → Each rest
    left-general (data_general _ _ _ h) e = left-data h e
    left-general (pair_general _ _ _ _ _ h _ k) e = left-general k (left-data h e).1
    left-general (empty_general _ _ _ _ _ _) e = e.1.1
    left-general (list_general _ _ _ _ _ _ h _) e = (left-generals h e.1).1

    left-generals : {d : ℕ} {ws rest : List Word} → AreGenerals d ws rest → Each ws → Each rest
    left-generals (last_general _ _ _ h) e = left-general h e
    left-generals (more_generals _ _ _ _ _ h _ k) e = left-generals k (left-general h e).1

    left-data : {d : ℕ} {ws rest : List Word} → IsData d ws rest → Each ws → Each rest
    left-data (name_data _ _ _ _) e = e.1
    left-data (call_data _ _ _ _ _ _ _ _ h _) e = (left-generals h e.1.1).1
    left-data (upper_data _ _ _ _) e = e.1
    left-data (integer_data _ _ _ _) e = e.1
    left-data (distinct_data _ _ _ _) e = e.1

  pub left-notes : {ws rest : List Word} → AreNotes ws rest → Each ws → Each rest
  left-notes (no_notes _) e = e
  left-notes (one_note _ _ _ _ h) e = left-general h e.1
  left-notes (two_notes _ _ _ _ _ _ h _ k) e = left-general k (left-general h e.1).1

  left-typing : {d : ℕ} {ws rest : List Word} {b : BodyTree} → IsTyping d ws b rest → Each ws → Each rest
  left-typing (base_typing _ _ _ _ _ _ _ _) e = e.1.1.1
  left-typing (constant_typing _ _ _ _ _ _ _ _ h) e = left-type h e.1.1
  left-typing (group_typing _ _ _ _ _ _ _ h _) e = (left-typing h e.1).1

  pub left-body : {role : List ℕ} {ws rest : List Word} {b : BodyTree} → IsBody role ws b rest → Each ws → Each rest
  left-body (typing_body _ _ _ _ h) e = left-typing h e
  left-body (formula_body _ _ _ _ h) e = left-formula h e

  left-labels : {ws rest : List Word} {labels : List SelectedTree} → AreLabels ws labels rest → Each ws → Each rest
  left-labels (last_label _ _ _) e = e.1
  left-labels (more_labels _ _ _ _ _ _ _ h) e = left-labels h e.1.1

  pub left-selection : {ws rest : List Word} {labels : Option (List SelectedTree)} → IsSelection ws labels rest → Each ws → Each rest
  left-selection (everything _) e = e
  left-selection (only _ _ _ _ _ _ _ _ h _) e = (left-labels h e.1.1).1

  left-end : {ws rest : List Word} → IsEnd ws rest → Each ws → Each rest
  left-end (ends _ _ _ _ _) e = e.1.1

  pub left-statement : {ws rest : List Word} {s : StatementTree} → IsStatement ws s rest → Each ws → Each rest
  left-statement (annotated_statement _ _ _ _ _ _ _ _ _ _ _ _ _ _ _ _ _ h k g) e = left-end g (left-notes k (left-body h e.1.1.1.1.1.1))
  left-statement (include_statement _ _ _ _ _ _ _ _ _ _ h k) e = left-end k (left-selection h e.1.1.1)
