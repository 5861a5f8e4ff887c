-- The refutation of a run is small enough for a text, since the terms of a run are small.
use Rattle.std.specs.Prelude.{◌≡◌, ℕ, false, List, Some, slice_get}
use Rattle.std.proofs.Common.{sym, subst}
use Rattle.std.proofs.lemmas.List.Elements.{recursion_from_All}
use Rattle.stt_core.specs.Lambda.{Lambda}
use Rattle.tableau_calculus.specs.Witnesses.{Row}
use Rattle.tableau_calculus.specs.RuleUses.{EachPart}
use Rattle.tableau_calculus.specs.CutFree.{is_cut_use}
use Rattle.tableau_calculus.specs.declared.rule_use.RuleUse.TheVariants.{Cut}
use Rattle.tableau_calculus.specs.declared.refutation.Refutation.{Refutation}
use Rattle.sat_base.specs.declared.literal.SatLit.{SatLit}
use Rattle.sat_log.specs.declared.log.LogEntry.{LogEntry}
use Rattle.term_bank.specs.Terms.{term_at}
use Rattle.literal_map.specs.Atoms.{bank_literal}
use Rattle.literal_map.specs.Numbers.{UseByNumbers}
use Rattle.command_queue.specs.Queue.{Queue}
use Rattle.tableau_calculus.specs.Each.{Each}
use Rattle.search_spec.specs.Numbered.{literal_at}
use Rattle.tableau_clauses.specs.Table.{EachComes}
use Rattle.refute_print.specs.Sizes.{IsSmallTerm, IsSmall}
use Rattle.rebuild_spec.specs.Input.{Instance, Sourced, start_unit, clause_by, clause_in, Input, literals_of}
use Rattle.rebuild_spec.specs.Rebuilt.{IsRebuilt}
use Rattle.type_bound.specs.Small.{IsSmallLiteral, StateHasSmallTerms}
use Rattle.type_bound.proofs.SmallLaws.{stay_small}
use Rattle.small_rebuilt.specs.Small.{TakesSmall, IsSmallNumber, IsSmallSource, InputHasSmallTerms, AreNumbersInRange}
use Rattle.small_rebuilt.proofs.SmallLaws.{rebuilt_small}
use Rattle.small_rebuilt.proofs.RangeLaws.{in_range_small, uses_small}
use Rattle.tableau_rebuild.specs.Tables.{the_input}
use Rattle.tableau_rebuild.proofs.SourceLaws.{instance_clause}
use Rattle.prover_state.specs.declared.command.Planned.{Planned}
use Rattle.prover_state.specs.declared.command.Delays.{Delays}
use Rattle.prover_state.specs.declared.tables.Tables.{Tables}
use Rattle.prover_state.specs.Internal.Standing.{setting_by, rows_in, the_state}
use Rattle.prover_state.specs.Internal.Steps.{IsMadeInstance}
use Rattle.prover_state.proofs.EachLaws.{each-unmapped, each-at, All-from_each}
use Rattle.prover_search.specs.Internal.Running.{start_in, IsRunning}
use Rattle.prover_run.proofs.ContainsLaws.{each-contains}
use Rattle.prover_run.proofs.OriginLaws.{named, named_there}
use Rattle.prover_run.proofs.RebuildUses.{sources-named, instances-over}

-- the literals of each clause of an input are small where the formulas that they stand for are
numbers_small : (input : Input) → Each (Each IsSmallLiteral) (named input) → (n : ℕ) (x : Sourced) → slice_get input.clauses n ≡ Some x → Each (IsSmallNumber input) (clause_in x)
numbers_small input small n x at =
    each-unmapped IsSmallLiteral (literal_at input.atoms) (clause_in x) (each-contains (Each IsSmallLiteral) (named input) (literals_of input.atoms (clause_in x)) small (named_there input n x at))

-- where the term of a rule is small and the rule is no cut, all that it takes is small
all_small : (terms : List Lambda) (atoms : List ℕ) (by : UseByNumbers) → is_cut_use by ≡ false → EachPart (λ u. IsSmallTerm (term_at terms u)) (λ l. Unit {0}) by
    → EachPart (λ u. IsSmallTerm (term_at terms u)) (λ l. IsSmallTerm (bank_literal terms atoms l).atom) by
all_small terms atoms (Cut l) h small = cc
all_small terms atoms by h small = small

module _ (t : Tables) (q : Queue Planned Delays) (running : IsRunning t q) (log : List LogEntry) where
  abbrev state_small : StateHasSmallTerms (the_state t q)
  state_small = stay_small (setting_by t q) (start_in t) running.modest running.modest_start t.done (the_state t q) running.comes_to

  abbrev input : Input
  input = the_input t.basis.bank t.basis.lits t.steps log t.basis.witnesses

  module _ (comes : EachComes t.steps) where
    clauses_small : Each (Each IsSmallLiteral) (named input)
    clauses_small = subst (Each (Each IsSmallLiteral)) (sym (sources-named t.basis running.right.basis t.steps running.right.clauses comes)) state_small.clauses

    -- what the rule of an instance takes is small
    rule_small : (n : ℕ) (clause : List SatLit) (i : Instance) → slice_get input.clauses n ≡ Some (clause_by clause i) → TakesSmall i.rule
    rule_small n clause i at =
        let b = t.basis.bank in
        let from = instance_clause b t.basis.lits t.steps t.basis.witnesses comes (instances-over t.basis running.right.basis t.steps.1 running.made) n clause i at in
        let made = each-at (IsMadeInstance t.basis) t.steps.1 from.number from.kept running.made from.there in
        subst (λ (x : Instance). TakesSmall x.rule) from.same (uses_small b.terms t.basis.lits from.kept.by (all_small b.terms t.basis.lits from.kept.by made.uncut made.small))

    source_small : (n : ℕ) (x : Sourced) → slice_get input.clauses n ≡ Some x → IsSmallSource input x
    source_small n (start_unit l) at = (numbers_small input clauses_small n (start_unit l) at).0
    source_small n (clause_by clause i) at = (numbers_small input clauses_small n (clause_by clause i) at, rule_small n clause i at)

    -- the terms of a run's tables are small
    pub input-small : InputHasSmallTerms input
    input-small =
        let P : Row → Type 0 = λ r. IsSmallTerm r.predicate in
        record { clauses = source_small; rows = recursion_from_All P (rows_in t.basis) (All-from_each P (rows_in t.basis) state_small.rows) }

    -- what is rebuilt of them is small enough for a text
    pub refutation-small : (refutation : Refutation) → AreNumbersInRange refutation → IsRebuilt input refutation → IsSmall refutation
    refutation-small refutation in_range rebuilt = in_range_small refutation in_range (rebuilt_small input refutation input-small rebuilt)
