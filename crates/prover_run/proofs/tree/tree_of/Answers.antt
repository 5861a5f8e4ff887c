use Rattle.std.proofs.Common.{◌↔◌, ℕ, List, Contains, map, sym, subst}
use Rattle.tableau_calculus.specs.Accepted.{IsAccepted}
use Rattle.sat_log.specs.declared.log.LogEntry.{LogEntry}
use Rattle.sat_core.specs.Solver.{learned}
use Rattle.term_bank.specs.Content.{content_scope}
use Rattle.witness_names.specs.Rows.{rows_of}
use Rattle.plain_tableau.specs.Trees.{TreeInstance}
use Rattle.plain_tableau.specs.Tables.{start_branch, IsUsable, IsStripped}
use Rattle.tableau_rebuild.specs.Conditions.{EndsEmpty}
use Rattle.tableau_rebuild.specs.Tables.{atoms_at, unit_literals}
use Rattle.tableau_rebuild.specs.UsedInstances.{IsUsedInstance}
use Rattle.sat_base.specs.declared.literal.SatLit.{SatLit}
use Rattle.prover_state.specs.Internal.Standing.{without_witnesses}
use Rattle.prover_state.proofs.NumberLaws.{apart}
use Rattle.prover_search.specs.Internal.Running.{start_in}
use Rattle.prover_run.proofs.RebuildUses.{instances-over, units-numbered, units-named, ends-empty}
use Rattle.prover_run.proofs.RunLaws.{accepted-declared}
use Rattle.prover_run.proofs.SmallUses.{input-small}
use Rattle.prover_run.proofs.TreeUses.{instance_at, all_held, of_tree, used_named, expanded_named, begin_numbered, begins_named}
use Rattle.prover_run.proofs.tree.tree_of.Goals as goal

pub used_may_be_used-requires-clause-instances : goal.used_may_be_used-requires-clause-instances
used_may_be_used-requires-clause-instances c =
    let t = c.args.tables.now in
    instances-over t.basis c.requires.run.running.right.basis t.steps.1 c.requires.run.running.made

pub trees_are_small-requires-clause-instances : goal.trees_are_small-requires-clause-instances
trees_are_small-requires-clause-instances c =
    let t = c.args.tables.now in
    instances-over t.basis c.requires.run.running.right.basis t.steps.1 c.requires.run.running.made

pub trees_are_small-requires-clause-small : goal.trees_are_small-requires-clause-small
trees_are_small-requires-clause-small c =
    input-small c.args.tables.now c.requires.run.plan c.requires.run.running c.log-log.result.now c.clauses_come_from_origins.ensures

pub used-requires-clause-closed : goal.used-requires-clause-closed
used-requires-clause-closed c =
    let t = c.args.tables.now in
    let E : List LogEntry → Type 0 = λ log. EndsEmpty log in
    subst E (sym c.log-log.ensures.log) (ends-empty t.solver.log (learned t.solver) c.requires.ends)

pub strip-requires-clause-units : goal.strip-requires-clause-units
strip-requires-clause-units c =
    let t = c.args.tables.now in
    units-numbered t.basis c.requires.run.running.right.basis t.steps.0 c.requires.run.running.right.clauses

pub strip-requires-clause-used : goal.strip-requires-clause-used
strip-requires-clause-used c =
    let t = c.args.tables.now in
    all_held (IsUsable t.basis.bank t.basis.lits (rows_of t.basis.bank.terms t.basis.witnesses) t.steps) c.in_ok-instances.instances (λ k h. c.used_may_be_used.ensures k ((c.in_ok-instances.ensures.used k).0 h))

pub returns : goal.returns
returns c =
    let t = c.args.tables.now in
    let b = t.basis.bank in
    let lits = t.basis.lits in
    let A = atoms_at b.terms lits in
    let rows = rows_of b.terms t.basis.witnesses in
    let r = c.requires.run.running.right in
    let used = c.in_ok-instances.instances in
    let s = c.in_ok-stripped.stripped in
    let told = c.in_ok-stripped.ensures in
    let units = sym (units-named t.basis r.basis t.steps.0 r.clauses) in
    let L : List LogEntry → Type 0 = λ log. (k : ℕ) → Contains used k ↔ IsUsedInstance t.steps log k in
    let U : List (TreeInstance SatLit) → Type 0 = λ us. IsStripped A rows us c.args.nodes (start_branch t.steps) s in
    let by_log = subst L c.log-log.ensures.log c.in_ok-instances.ensures.used in
    let apart_here = apart b lits r.basis.atoms c.equal_ids_for_equal_terms.ensures c.atoms_differ.ensures in
    record {
      instances = map (instance_at b lits t.steps t.basis.witnesses t.solver.log) used;
      used = used_named b lits t.steps t.basis.witnesses t.solver.log c.clauses_come_from_origins.ensures c.clauses_stand_in_order.ensures used c.in_ok-instances.ensures.increasing by_log;
      branch = start_branch t.steps;
      numbered = begin_numbered b lits t.steps t.basis.witnesses t.solver.log (units-numbered t.basis r.basis t.steps.0 r.clauses);
      begins = begins_named b lits t.steps t.basis.witnesses t.solver.log apart_here (units-numbered t.basis r.basis t.steps.0 r.clauses) (start_in t) (sym units);
      comes = subst U (sym (expanded_named b lits t.steps t.basis.witnesses t.solver.log used)) told.exactly;
      accepted = of_tree (IsAccepted (content_scope b) (unit_literals A t.steps.0)) (IsAccepted (without_witnesses b) (start_in t)) (λ refutation a. accepted-declared b (start_in t) (unit_literals A t.steps.0) refutation units a) s told.accepted;
      no_cut = told.no_cut;
      within = told.within;
      reached = told.reached;
      small = c.trees_are_small.ensures used c.args.nodes s (λ k h. (c.in_ok-instances.ensures.used k).0 h) told.exactly told.in_range;
    }
