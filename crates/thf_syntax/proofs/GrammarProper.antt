-- The trees that tokens have are proper, where the tokens' texts are of their kinds.
use Rattle.std.proofs.Common.{◌≡◌, ℕ, true, inl, inr, List, [], ◌∷◌, Option, codes}
use Rattle.std.specs.List.{AllByRecursion}
use Rattle.thf_grammar.specs.Trees.{TypeTree, VarTree, FormulaTree, BodyTree, SelectedTree, StatementTree}
use Rattle.thf_grammar.specs.declared.connective.Conn.{Conn}
use Rattle.thf_grammar.specs.declared.connective.Binder.{Binder}
use Rattle.thf_grammar.specs.Words.{Word}
use Rattle.thf_grammar.specs.Types.{IsType, simple_type, arrow_type, IsSimpleType, indiv_type, form_type, named_type, group_type, IsVar, plain_var, typed_var}
use Rattle.thf_grammar.specs.Formulas.{IsFormulaText, unit_formula, pair_formula, chain_formula, apply_formula, quantified_formula, AreLinks, no_links, more_links, AreArguments, no_arguments, more_arguments, IsUnit, unitary_unit, negation_unit, equation_unit, IsOperand, unitary_operand, negation_operand, IsNegation, negated, IsUnitary, primary_unitary, binder_unitary, IsPrimary, constant_primary, variable_primary, truth_primary, group_primary, operator_primary, IsBinder, bound, AreVars, last_var, more_vars, is_chained, binds_many}
use Rattle.thf_grammar.specs.Notes.{AreNotes, no_notes, one_note, two_notes, IsGeneral, data_general, pair_general, empty_general, list_general, AreGenerals, last_general, more_generals, IsData, name_data, call_data, upper_data, integer_data, distinct_data}
use Rattle.thf_grammar.specs.Statements.{selected, IsTyping, base_typing, constant_typing, group_typing, IsBody, typing_body, formula_body, AreLabels, last_label, more_labels, IsSelection, everything, only, IsEnd, ends, IsStatement, annotated_statement, include_statement, IsFile, no_statement, more_statements}
use Rattle.thf_syntax.specs.Law.{IsSpelled}
use Rattle.thf_syntax.proofs.Proper.{IsProperType, IsProperVar, AreProperVars, IsProper, IsProperBody, AreProperLabels, IsProperSelection, IsProperStatement, AreProperStatements}
use Rattle.thf_syntax.proofs.Spelling.{is_nameable}
use Rattle.thf_syntax.proofs.WordNames.{lower-name, upper-name, quoted-name, nameable-name, nameable-label}

-- the texts of the tokens are of their kinds
abbrev pub AreSpelled : List Word → Type 0
AreSpelled ws = AllByRecursion (λ (w : Word). IsSpelled w.lexeme) ws

-- what is read is proper, and the tokens behind it are spelled too
record Proper (P : Type 0) (rest : List Word) : Type 0 where
  tree : P
  later : AreSpelled rest

mutual
  proper-type : {d : ℕ} {ws : List Word} {t : TypeTree} {rest : List Word} → IsType d ws t rest → AreSpelled ws → Proper (IsProperType t) rest
  proper-type (simple_type d ws rest t h) s = proper-simple_type h s
  proper-type (arrow_type d ws right rest w t u h is k) s =
      let left = proper-simple_type h s in
      let right = proper-type k left.later.1 in
      record { tree = (left.tree, right.tree); later = right.later }

  proper-simple_type : {d : ℕ} {ws : List Word} {t : TypeTree} {rest : List Word} → IsSimpleType d ws t rest → AreSpelled ws → Proper (IsProperType t) rest
  proper-simple_type (indiv_type d w rest is) s = record { tree = tt; later = s.1 }
  proper-simple_type (form_type d w rest is) s = record { tree = tt; later = s.1 }
  proper-simple_type (named_type d w rest is) s = record { tree = nameable-name d w is s.0; later = s.1 }
  proper-simple_type (group_type d w v inside rest t is h isv) s =
      let inner = proper-type h s.1 in
      record { tree = inner.tree; later = inner.later.1 }

proper-var : {d : ℕ} {ws : List Word} {v : VarTree} {rest : List Word} → IsVar d ws v rest → AreSpelled ws → Proper (IsProperVar v) rest
proper-var (plain_var d w rest is) s = record { tree = record { name = upper-name d w is s.0; ty = tt }; later = s.1 }
proper-var (typed_var d w v inside rest t is isv h) s =
    let ty = proper-type h s.1.1 in
    record { tree = record { name = upper-name d w is s.0; ty = ty.tree }; later = ty.later }

proper-more_vars : (b : Binder) (v : VarTree) (vs : List VarTree) → IsProperVar v → binds_many b ≡ true → AreProperVars b vs → AreProperVars b (v ∷ vs)
proper-more_vars b v [] h many later = absurd later
proper-more_vars b v (u ∷ vs) h many later = (h, many, later)

proper-vars : {b : Binder} {d : ℕ} {ws : List Word} {vs : List VarTree} {e : ℕ} {rest : List Word} → AreVars b d ws vs e rest → AreSpelled ws → Proper (AreProperVars b vs) rest
proper-vars (last_var d ws rest v h) s = proper-var h s
proper-vars {b = b} (more_vars d e ws behind rest w v vs h many is k) s =
    let first = proper-var h s in
    let others = proper-vars k first.later.1 in
    record { tree = proper-more_vars b v vs first.tree many others.tree; later = others.later }

mutual
  proper-formula : {d : ℕ} {ws : List Word} {t : FormulaTree} {rest : List Word} → IsFormulaText d ws t rest → AreSpelled ws → Proper (IsProper t) rest
  proper-formula (unit_formula d ws rest t h) s = proper-unit h s
  proper-formula (pair_formula d ws right rest w c t u h is nonassoc k) s =
      let left = proper-unit h s in
      let right = proper-unit k left.later.1 in
      record { tree = (inr nonassoc, left.tree, right.tree); later = right.later }
  proper-formula (chain_formula d ws right behind rest w c t u v h is chained k links) s =
      let left = proper-unit h s in
      let right = proper-unit k left.later.1 in
      proper-links chained links (inl chained, left.tree, right.tree) right.later
  proper-formula (apply_formula d ws right behind rest w t u v h is k arguments) s =
      let left = proper-unitary h s in
      let right = proper-operand k left.later.1 in
      proper-arguments arguments (left.tree, right.tree) right.later
  proper-formula (quantified_formula d q w right behind rest all u v isq is k arguments) s =
      let right = proper-operand k s.1.1 in
      proper-arguments arguments right.tree right.later

  proper-links : {c : Conn} → is_chained c ≡ true → {d : ℕ} {t : FormulaTree} {ws : List Word} {v : FormulaTree} {rest : List Word} → AreLinks c d t ws v rest → IsProper t → AreSpelled ws → Proper (IsProper v) rest
  proper-links chained (no_links c d t rest) proper s = record { tree = proper; later = s }
  proper-links chained (more_links c d t u v w right behind rest is k links) proper s =
      let right = proper-unit k s.1 in
      proper-links chained links (inl chained, proper, right.tree) right.later

  proper-arguments : {d : ℕ} {t : FormulaTree} {ws : List Word} {v : FormulaTree} {rest : List Word} → AreArguments d t ws v rest → IsProper t → AreSpelled ws → Proper (IsProper v) rest
  proper-arguments (no_arguments d t rest) proper s = record { tree = proper; later = s }
  proper-arguments (more_arguments d t u v w right behind rest is k arguments) proper s =
      let right = proper-operand k s.1 in
      proper-arguments arguments (proper, right.tree) right.later

  proper-unit : {d : ℕ} {ws : List Word} {t : FormulaTree} {rest : List Word} → IsUnit d ws t rest → AreSpelled ws → Proper (IsProper t) rest
  proper-unit (unitary_unit d ws rest t h) s = proper-unitary h s
  proper-unit (negation_unit d ws rest t h) s = proper-negation h s
  proper-unit (equation_unit d ws right rest w positive t u h is k) s =
      let left = proper-primary h s in
      let right = proper-unitary k left.later.1 in
      record { tree = (left.tree, right.tree); later = right.later }

  proper-operand : {d : ℕ} {ws : List Word} {t : FormulaTree} {rest : List Word} → IsOperand d ws t rest → AreSpelled ws → Proper (IsProper t) rest
  proper-operand (unitary_operand d ws rest t h) s = proper-unitary h s
  proper-operand (negation_operand d ws rest t h) s = proper-negation h s

  proper-negation : {d : ℕ} {ws : List Word} {t : FormulaTree} {rest : List Word} → IsNegation d ws t rest → AreSpelled ws → Proper (IsProper t) rest
  proper-negation (negated d w inside rest t is h) s = proper-operand h s.1

  proper-unitary : {d : ℕ} {ws : List Word} {t : FormulaTree} {rest : List Word} → IsUnitary d ws t rest → AreSpelled ws → Proper (IsProper t) rest
  proper-unitary (primary_unitary d ws rest t h) s = proper-primary h s
  proper-unitary (binder_unitary d ws rest t h) s = proper-binder h s

  proper-primary : {d : ℕ} {ws : List Word} {t : FormulaTree} {rest : List Word} → IsPrimary d ws t rest → AreSpelled ws → Proper (IsProper t) rest
  proper-primary (constant_primary d w rest is) s = record { tree = nameable-name d w is s.0; later = s.1 }
  proper-primary (variable_primary d w rest is) s = record { tree = upper-name d w is s.0; later = s.1 }
  proper-primary (truth_primary d w rest value is) s = record { tree = tt; later = s.1 }
  proper-primary (group_primary d w v inside rest t is h isv) s =
      let inner = proper-formula h s.1 in
      record { tree = inner.tree; later = inner.later.1 }
  proper-primary (operator_primary d w o v rest c is iso isv) s = record { tree = tt; later = s.1.1.1 }

  proper-binder : {d : ℕ} {ws : List Word} {t : FormulaTree} {rest : List Word} → IsBinder d ws t rest → AreSpelled ws → Proper (IsProper t) rest
  proper-binder (bound d e w opening closing colon ws body rest b vs t is iso vars isc isl h) s =
      let names = proper-vars vars s.1.1 in
      let inner = proper-unit h names.later.1.1 in
      record { tree = (names.tree, inner.tree); later = inner.later }

-- notes leave tokens that are spelled
mutual
  spelled-general : {d : ℕ} {ws : List Word} {rest : List Word} → IsGeneral d ws rest → AreSpelled ws → AreSpelled rest
  spelled-general (data_general d ws rest h) s = spelled-data h s
  spelled-general (pair_general d ws right rest w h is k) s = spelled-general k (spelled-data h s).1
  spelled-general (empty_general d w v rest is isv) s = s.1.1
  spelled-general (list_general d w v inside rest is h isv) s = (spelled-generals h s.1).1

  spelled-generals : {d : ℕ} {ws : List Word} {rest : List Word} → AreGenerals d ws rest → AreSpelled ws → AreSpelled rest
  spelled-generals (last_general d ws rest h) s = spelled-general h s
  spelled-generals (more_generals d ws right rest w h is k) s = spelled-generals k (spelled-general h s).1

  spelled-data : {d : ℕ} {ws : List Word} {rest : List Word} → IsData d ws rest → AreSpelled ws → AreSpelled rest
  spelled-data (name_data d w rest is) s = s.1
  spelled-data (call_data d w o v inside rest is iso h isv) s = (spelled-generals h s.1.1).1
  spelled-data (upper_data d w rest is) s = s.1
  spelled-data (integer_data d w rest is) s = s.1
  spelled-data (distinct_data d w rest is) s = s.1

spelled-notes : {ws : List Word} {rest : List Word} → AreNotes ws rest → AreSpelled ws → AreSpelled rest
spelled-notes (no_notes rest) s = s
spelled-notes (one_note w ws rest is h) s = spelled-general h s.1
spelled-notes (two_notes w v ws mid rest is h isv k) s = spelled-general k (spelled-general h s.1).1

spelled-end : {ws : List Word} {rest : List Word} → IsEnd ws rest → AreSpelled ws → AreSpelled rest
spelled-end (ends w v rest is isv) s = s.1.1

proper-typing : (role : List ℕ) → role ≡ codes "type" → {d : ℕ} {ws : List Word} {b : BodyTree} {rest : List Word} → IsTyping d ws b rest → AreSpelled ws → Proper (IsProperBody role b) rest
proper-typing role e (base_typing d w v k rest is isv isk) s = record { tree = (e, nameable-name d w is s.0); later = s.1.1.1 }
proper-typing role e (constant_typing d w v ws rest t is isv h) s =
    let ty = proper-type h s.1.1 in
    record { tree = (e, nameable-name d w is s.0, ty.tree); later = ty.later }
proper-typing role e (group_typing d w v ws rest b is h isv) s =
    let inner = proper-typing role e h s.1 in
    record { tree = inner.tree; later = inner.later.1 }

proper-body : {role : List ℕ} {ws : List Word} {b : BodyTree} {rest : List Word} → IsBody role ws b rest → AreSpelled ws → Proper (IsProperBody role b) rest
proper-body {role = role} (typing_body ws rest b e h) s = proper-typing role e h s
proper-body (formula_body ws rest t other h) s =
    let f = proper-formula h s in
    record { tree = (other, f.tree); later = f.later }

proper-more_labels : (l : SelectedTree) (ls : List SelectedTree) → is_nameable l.name ≡ true → AreProperLabels ls → AreProperLabels (l ∷ ls)
proper-more_labels l [] h later = absurd later
proper-more_labels l (k ∷ ls) h later = (h, later)

proper-labels : {ws : List Word} {ls : List SelectedTree} {rest : List Word} → AreLabels ws ls rest → AreSpelled ws → Proper (AreProperLabels ls) rest
proper-labels (last_label w rest is) s = record { tree = nameable-label w is s.0; later = s.1 }
proper-labels (more_labels w v ws rest labels is isv h) s =
    let others = proper-labels h s.1.1 in
    record { tree = proper-more_labels (selected w) labels (nameable-label w is s.0) others.tree; later = others.later }

proper-selection : {ws : List Word} {ls : Option (List SelectedTree)} {rest : List Word} → IsSelection ws ls rest → AreSpelled ws → Proper (IsProperSelection ls) rest
proper-selection (everything rest) s = record { tree = tt; later = s }
proper-selection (only w v u ws rest labels is isv h isu) s =
    let names = proper-labels h s.1.1 in
    record { tree = names.tree; later = names.later.1 }

proper-statement : {ws : List Word} {t : StatementTree} {rest : List Word} → IsStatement ws t rest → AreSpelled ws → Proper (IsProperStatement t) rest
proper-statement (annotated_statement k o l c r e ws mid behind rest b isk iso isl isc isr ise h notes end) s =
    let body = proper-body h s.1.1.1.1.1.1 in
    record {
      tree = (nameable-label l isl s.1.1.0, lower-name 0 r isr s.1.1.1.1.0, body.tree);
      later = spelled-end end (spelled-notes notes body.later);
    }
proper-statement (include_statement k o f ws behind rest labels isk iso isf h end) s =
    let names = proper-selection h s.1.1.1 in
    record { tree = (quoted-name 0 f isf s.1.1.0, names.tree); later = spelled-end end names.later }

pub proper-file : {ws : List Word} {ss : List StatementTree} → IsFile ws ss → AreSpelled ws → AreProperStatements ss
proper-file (no_statement w is) s = tt
proper-file (more_statements ws rest t ss h k) s =
    let first = proper-statement h s in
    (first.tree, proper-file k first.later)
