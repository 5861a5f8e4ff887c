-- What the tables of a run give is right, and its instances are well numbered.
use Rattle.std.specs.Prelude.{◌≡◌, ◌++◌, ℕ, List, [], ◌∷◌, length, Some, slice_get, refl}
use Rattle.std.specs.List.{All}
use Rattle.std.proofs.Common.{subst}
use Rattle.stt_core.specs.Lambda.{Lambda}
use Rattle.tableau_calculus.specs.Each.{Each}
use Rattle.tableau_calculus.specs.Literals.{Literal}
use Rattle.tableau_calculus.specs.Witnesses.{Row, IsTableAfter}
use Rattle.tableau_calculus.specs.declared.rule_use.RuleUse.TheVariants.{AtOne, AtTwo, AllPos, WithPredicate, Cut}
use Rattle.sat_base.specs.declared.literal.SatLit.{SatLit}
use Rattle.sat_base.specs.Literal.{IsOver}
use Rattle.sat_log.specs.declared.log.LogEntry.{LogEntry}
use Rattle.search_spec.specs.Numbered.{IsNumber}
use Rattle.term_bank.specs.Content.{Content, content_scope}
use Rattle.literal_map.specs.Numbers.{UseByNumbers}
use Rattle.witness_names.specs.Rows.{rows_of}
use Rattle.tableau_clauses.specs.Table.{Table, the_instances, EachComes}
use Rattle.tableau_rules.specs.Uses.{use_of}
use Rattle.rebuild_spec.specs.Given.{IsRightClause, IsGiven}
use Rattle.rebuild_spec.specs.Input.{Instance, clause_by, start_unit, Sourced, Input}
use Rattle.rebuild_spec.specs.Stands.{rule_at_places}
use Rattle.tableau_rebuild.specs.Conditions.{IsInstanceOver}
use Rattle.tableau_rebuild.specs.Tables.{atoms_at, the_sources}
use Rattle.tableau_rebuild.proofs.SourceLaws.{instance_clause}
use Rattle.prover_state.specs.Internal.Standing.{without_witnesses}
use Rattle.prover_state.proofs.EachLaws.{each-from_All, each-weaker}
use Rattle.prover_run.specs.Origin.{IsWellNumbered}
use Rattle.prover_run.proofs.TreeUses.{each_over}

-- the rule of an instance takes the principals in their order
in_order : (terms : List Lambda) (atoms : List ℕ) (by : UseByNumbers) → rule_at_places (use_of terms atoms by) (0 ∷ 1 ∷ []) ≡ use_of terms atoms by
in_order terms atoms (AtOne kind i) = refl
in_order terms atoms (AtTwo kind i j) = refl
in_order terms atoms (AllPos i u) = refl
in_order terms atoms (WithPredicate kind f) = refl
in_order terms atoms (Cut l) = refl

module _ (b : Content) (atoms : List ℕ) (t : Table) (witnesses : List ℕ) (log : List LogEntry) where
  abbrev named : List Lambda
  named = atoms_at b.terms atoms

  -- the instances over the bank are well numbered
  pub well-numbered : EachComes t → All (IsInstanceOver b atoms (rows_of b.terms witnesses)) (the_instances t)
      → (n : ℕ) (clause : List SatLit) (i : Instance) → slice_get (the_sources b.terms atoms t) n ≡ Some (clause_by clause i) → IsWellNumbered named i
  well-numbered comes over n clause i at =
      let from = instance_clause b atoms t witnesses comes over n clause i at in
      let W : Instance → Type 0 = λ x. IsWellNumbered named x in
      let numbered : (ls : List SatLit) → IsOver (length atoms) ls → Each (IsNumber named) ls = each_over b atoms t witnesses log in
      subst W from.same (record {
        numbered = record {
          principals = numbered from.kept.principals from.over.principals;
          alternatives = each-weaker (IsOver (length atoms)) (Each (IsNumber named)) numbered from.kept.alternatives (each-from_All (IsOver (length atoms)) from.kept.alternatives from.over.alternatives);
        };
        in_order = in_order b.terms atoms from.kept.by;
      })

pub table_declared : (b : Content) (earlier rows : List Row) → IsTableAfter (content_scope b) earlier rows → IsTableAfter (without_witnesses b) earlier rows
table_declared b earlier [] h = tt
table_declared b earlier (r ∷ rows) h = (h.0, h.1, table_declared b (earlier ++ r ∷ []) rows h.2)

right_declared : (b : Content) (ls : List Literal) (input : Input) (c : Sourced) → IsRightClause (content_scope b) ls input c → IsRightClause (without_witnesses b) ls input c
right_declared b ls input (start_unit l) h = h
right_declared b ls input (clause_by c i) h = h

-- what is given over a bank is given over what it declares, its witnesses apart
pub given-declared : (b : Content) (ls ks : List Literal) (input : Input) → ks ≡ ls → IsGiven (content_scope b) ks input → IsGiven (without_witnesses b) ls input
given-declared b ls ks input same given =
    let G : List Literal → Type 0 = λ xs. IsGiven (without_witnesses b) xs input in
    subst G same (record { table = table_declared b [] input.rows given.table; atoms = given.atoms; clauses = λ n c at. right_declared b ks input c (given.clauses n c at) })
