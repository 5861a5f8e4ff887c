-- Where the clauses of a table of steps come from.
use Rattle.std.proofs.Common.{◌≡◌, ℕ, zero, suc, List, [], ◌∷◌, ◌++◌, length, Some, option_map, unwrap_or, slice_get, get_or, Contains, refl, sym, ap, ◌∙◌, subst}
use Rattle.std.specs.List.{All}
use Rattle.std.proofs.lemmas.Option.{slice_get-map}
use Rattle.std.proofs.lemmas.List.Elements.{All-contains, Contains-append_right}
use Rattle.stt_core.specs.Lambda.{Lambda}
use Rattle.tableau_calculus.proofs.ListLaws.{contains-first, contains-get}
use Rattle.sat_base.specs.declared.literal.SatLit.{SatLit}
use Rattle.sat_base.specs.Literal.{IsOver}
use Rattle.term_bank.specs.Content.{Content}
use Rattle.literal_map.specs.declared.instance.Instance.{Instance as BankInstance}
use Rattle.search_spec.specs.Clauses.{instance_clauses}
use Rattle.search_spec.specs.Numbered.{numbers, literal_at}
use Rattle.witness_names.specs.Rows.{rows_of}
use Rattle.tableau_clauses.specs.declared.origin.Origin.{Origin}
use Rattle.tableau_clauses.specs.declared.origin.Origin.TheVariants.{Start, Instance as From}
use Rattle.tableau_clauses.specs.Table.{Step, Table, EachComes}
use Rattle.rebuild_spec.specs.Input.{Instance, Sourced, start_unit, clause_by}
use Rattle.rebuild_spec.proofs.ExistsLaws.{map_some}
use Rattle.tableau_rebuild.specs.Tables.{no_literal, no_instance, the_instance, sourced, the_sources, start_literals_in, unit_literals}
use Rattle.tableau_rebuild.specs.Conditions.{AreUnitsNumbered, IsInstanceOver}

-- the literal of a start unit is one of those of the start
pub unit_there : (atoms : List Lambda) (steps : List Step) (n : ℕ) (l : SatLit) → slice_get steps n ≡ Some (l ∷ [], Start) → Contains (unit_literals atoms steps) (literal_at atoms l)
unit_there atoms [] n l h = cc
unit_there atoms (s ∷ steps) zero l h =
    let same : s ≡ (l ∷ [], Start) = cc in
    subst (λ (z : Step). Contains (start_literals_in atoms z.0 z.1 ++ unit_literals atoms steps) (literal_at atoms l)) (sym same) (contains-first (literal_at atoms l) (unit_literals atoms steps))
unit_there atoms (s ∷ steps) (suc n) l h = Contains-append_right (start_literals_in atoms s.0 s.1) (unit_literals atoms steps) (literal_at atoms l) (unit_there atoms steps n l h)

module _ (b : Content) (atoms : List ℕ) (t : Table) (witnesses : List ℕ) (comes : EachComes t) (instances : All (IsInstanceOver b atoms (rows_of b.terms witnesses)) t.1) where
  -- the clause with this number is one of those of the instance, which is kept as this one
  pub record IsInstanceClause (n : ℕ) (clause : List SatLit) (i : Instance) : Type 0 where
    pub kept : BankInstance
    pub number : ℕ
    pub step : slice_get t.0 n ≡ Some (clause, From number)
    pub there : slice_get t.1 number ≡ Some kept
    pub over : IsInstanceOver b atoms (rows_of b.terms witnesses) kept
    pub is_one : Contains (instance_clauses numbers kept.principals kept.alternatives) clause
    pub same : the_instance b.terms atoms kept ≡ i

  step_of : (n : ℕ) (x : Sourced) → slice_get (the_sources b.terms atoms t) n ≡ Some x → (s : Step) × (slice_get t.0 n ≡ Some s) × (sourced b.terms atoms t.1 s.0 s.1 ≡ x)
  step_of n x h = map_some (λ (s : Step). sourced b.terms atoms t.1 s.0 s.1) (slice_get t.0 n) x (sym (slice_get-map (λ (s : Step). sourced b.terms atoms t.1 s.0 s.1) t.0 n) ∙ h)

  pub instance_clause : (n : ℕ) (clause : List SatLit) (i : Instance) → slice_get (the_sources b.terms atoms t) n ≡ Some (clause_by clause i) → IsInstanceClause n clause i
  instance_clause n clause i h = let s = step_of n (clause_by clause i) h in go s.0.0 s.0.1 s.1 s.2
    where
      go : (c : List SatLit) (o : Origin) → slice_get t.0 n ≡ Some (c, o) → sourced b.terms atoms t.1 c o ≡ clause_by clause i → IsInstanceClause n clause i
      go c Start at e = cc
      go c (From k) at e =
          let from = comes n (c, From k) at in
          let one : c ≡ clause = cc in
          let two : unwrap_or (option_map (the_instance b.terms atoms) (slice_get t.1 k)) no_instance ≡ i = cc in
          record {
            kept = from.0;
            number = k;
            step = at ∙ ap (λ x. Some (x, From k)) one;
            there = from.1;
            over = All-contains (IsInstanceOver b atoms (rows_of b.terms witnesses)) t.1 from.0 instances (contains-get t.1 k from.0 from.1);
            is_one = subst (Contains (instance_clauses numbers from.0.principals from.0.alternatives)) one from.2;
            same = sym (ap (λ o. unwrap_or (option_map (the_instance b.terms atoms) o) no_instance) from.1) ∙ two;
          }

  -- a start unit is the clause of its literal
  pub unit_clause : (n : ℕ) (l : SatLit) → slice_get (the_sources b.terms atoms t) n ≡ Some (start_unit l) → slice_get t.0 n ≡ Some (l ∷ [], Start)
  unit_clause n l h = let s = step_of n (start_unit l) h in go s.0.0 s.0.1 s.1 s.2
    where
      go : (c : List SatLit) (o : Origin) → slice_get t.0 n ≡ Some (c, o) → sourced b.terms atoms t.1 c o ≡ start_unit l → slice_get t.0 n ≡ Some (l ∷ [], Start)
      go c (From k) at e = cc
      go c Start at e =
          let from = comes n (c, Start) at in
          let is : get_or c 0 no_literal ≡ l = cc in
          let same : from.0 ≡ l = sym (ap (λ x. get_or x 0 no_literal) from.1) ∙ is in
          at ∙ ap (λ x. Some (x, Start)) (from.1 ∙ ap (λ m. m ∷ []) same)

  module _ (units : AreUnitsNumbered atoms t) where
    pub unit_over : (n : ℕ) (l : SatLit) → slice_get (the_sources b.terms atoms t) n ≡ Some (start_unit l) → IsOver (length atoms) (l ∷ [])
    unit_over n l h =
        let at = unit_clause n l h in
        All-contains (λ (s : Step). s.1 ≡ Start → IsOver (length atoms) s.0) t.0 (l ∷ [], Start) units (contains-get t.0 n (l ∷ [], Start) at) refl
