-- Tables of a search are a right input.
use Rattle.std.proofs.Common.{◌≡◌, ℕ, List, [], ◌∷◌, map, take, drop, length, Some, slice_get, Contains, refl, sym, ap, ◌∙◌, subst, arith}
use Rattle.std.specs.List.{All}
use Rattle.std.proofs.lemmas.List.{take-append-drop, take-map, take_at}
use Rattle.std.proofs.lemmas.List.Elements.{All-contains}
use Rattle.stt_core.specs.SimpleType.{SimpleType, formula}
use Rattle.stt_core.specs.Lambda.{Lambda}
use Rattle.stt_core.specs.Canonical.{IsCanonical}
use Rattle.tableau_calculus.specs.Literals.{plus, IsLiteral}
use Rattle.tableau_calculus.specs.Witnesses.{Row, with_rows}
use Rattle.tableau_calculus.proofs.ListLaws.{contains_cases, contains-later, contains-first}
use Rattle.sat_base.specs.declared.literal.SatLit.{SatLit}
use Rattle.sat_log.specs.declared.log.LogEntry.{LogEntry}
use Rattle.term_bank.specs.Content.{Content, content_scope}
use Rattle.term_bank.specs.Terms.{term_at}
use Rattle.literal_map.specs.Atoms.{IsAtom}
use Rattle.search_spec.proofs.WiderLaws.{canonical_wider}
use Rattle.witness_names.specs.Rows.{rows_of, AreRows}
use Rattle.tableau_clauses.specs.Table.{Table, EachComes}
use Rattle.rebuild_spec.specs.Input.{Instance, Sourced, start_unit, clause_by}
use Rattle.rebuild_spec.specs.Given.{IsClauseOf, IsRightClause, IsGiven}
use Rattle.tableau_rebuild.specs.Tables.{atoms_at, the_sources, the_input, unit_literals}
use Rattle.tableau_rebuild.specs.Conditions.{IsInstanceOver}
use Rattle.tableau_rebuild.proofs.SourceLaws.{IsInstanceClause, instance_clause, unit_clause, unit_there}

-- the rows of a bank's own witnesses, and those behind
front_types : (b : Content) (ids : List ℕ) (rows : AreRows b ids) → map (λ (r : Row). r.type) (take (length b.witnesses) (rows_of b.terms ids)) ≡ b.witnesses
front_types b ids rows =
    sym (take-map (λ (r : Row). r.type) (length b.witnesses) (rows_of b.terms ids))
    ∙ ap (take (length b.witnesses)) rows.types
    ∙ take_at b.witnesses rows.further (length b.witnesses) refl

-- a formula over a bank is one over its witness table
pub formula_wider : (b : Content) (ids : List ℕ) → AreRows b ids → (t : Lambda) → IsCanonical (content_scope b) [] formula t → IsCanonical (with_rows (content_scope b) (rows_of b.terms ids)) [] formula t
formula_wider b ids rows t h =
    let all = rows_of b.terms ids in
    let front = take (length b.witnesses) all in
    let back = drop (length b.witnesses) all in
    let here : IsCanonical (with_rows (content_scope b) front) [] formula t = subst (λ (ws : List SimpleType). IsCanonical (record { bases = (content_scope b).bases; names = (content_scope b).names; witnesses = ws }) [] formula t) (sym (front_types b ids rows)) h in
    subst (λ rs. IsCanonical (with_rows (content_scope b) rs) [] formula t) (take-append-drop (length b.witnesses) all) (canonical_wider (content_scope b) back front [] formula t here)

contains-map : {A B : Type 0} (f : A → B) (xs : List A) (y : B) → Contains (map f xs) y → (x : A) × Contains xs x × (f x ≡ y)
contains-map f [] y h = absurd (omega (arith, h.1))
contains-map f (x ∷ xs) y h =
    contains_cases ((z : _) × Contains (x ∷ xs) z × (f z ≡ y)) y (f x) (map f xs) h (λ same. (x, contains-first x xs, same))
    (λ later. let r = contains-map f xs y later in (r.0, contains-later r.0 x xs r.1, r.2))

module _ (b : Content) (atoms : List ℕ) (t : Table) (log : List LogEntry) (witnesses : List ℕ) (rows : AreRows b witnesses) (are_atoms : All (IsAtom b) atoms) (comes : EachComes t) (instances : All (IsInstanceOver b atoms (rows_of b.terms witnesses)) t.1) where
  atom_literal : (x : Lambda) → Contains (atoms_at b.terms atoms) x → IsLiteral (with_rows (content_scope b) (rows_of b.terms witnesses)) (plus x)
  atom_literal x h =
      let found = contains-map (term_at b.terms) atoms x h in
      let atom = All-contains (IsAtom b) atoms found.0 are_atoms found.1 in
      subst (λ y. IsLiteral (with_rows (content_scope b) (rows_of b.terms witnesses)) (plus y)) found.2
      (record { formula = formula_wider b witnesses rows (term_at b.terms found.0) atom.is_formula; unsigned = atom.unsigned })

  instance_right : (n : ℕ) (c : List SatLit) (i : Instance) → IsInstanceClause b atoms t witnesses comes instances n c i → IsClauseOf (with_rows (content_scope b) (rows_of b.terms witnesses)) (rows_of b.terms witnesses) (atoms_at b.terms atoms) c i
  instance_right n c i h =
      let A = atoms_at b.terms atoms in
      let R = rows_of b.terms witnesses in
      let S = with_rows (content_scope b) R in
      subst (IsClauseOf S R A c) h.same (record { fits = h.over.fits; is_one = h.is_one })

  clause_right : (n : ℕ) (x : Sourced) → slice_get (the_sources b.terms atoms t) n ≡ Some x → IsRightClause (content_scope b) (unit_literals (atoms_at b.terms atoms) t.0) (the_input b atoms t log witnesses) x
  clause_right n (start_unit l) h = unit_there (atoms_at b.terms atoms) t.0 n l (unit_clause b atoms t witnesses comes instances n l h)
  clause_right n (clause_by c i) h = instance_right n c i (instance_clause b atoms t witnesses comes instances n c i h)

  pub given : IsGiven (content_scope b) (unit_literals (atoms_at b.terms atoms) t.0) (the_input b atoms t log witnesses)
  given = record { table = rows.table; atoms = atom_literal; clauses = clause_right }
