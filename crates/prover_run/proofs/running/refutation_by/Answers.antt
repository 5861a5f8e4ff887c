use Rattle.std.proofs.Common.{List, refl, sym, subst}
use Rattle.tableau_calculus.specs.Literals.{Literal}
use Rattle.sat_log.specs.declared.log.LogEntry.{LogEntry}
use Rattle.sat_core.specs.Solver.{learned}
use Rattle.tableau_rebuild.specs.Conditions.{EndsEmpty}
use Rattle.tableau_rebuild.specs.Tables.{atoms_at, the_input, unit_literals}
use Rattle.tableau_clauses.specs.Table.{the_clauses}
use Rattle.prover_state.proofs.NumberLaws.{apart, clauses_number}
use Rattle.prover_search.specs.Internal.Running.{start_in}
use Rattle.prover_state.specs.Internal.Standing.{without_witnesses}
use Rattle.rebuild_spec.specs.Given.{IsGiven}
use Rattle.rebuild_spec.specs.Rebuilt.{IsRebuilt}
use Rattle.rebuild_spec.specs.Used.{AreFew}
use Rattle.prover_run.specs.Origin.{EachComesFrom}
use Rattle.prover_run.specs.RunTables.{clauses_of}
use Rattle.prover_run.proofs.RebuildUses.{instances-over, units-numbered, units-named, origin-named, within-named, shortly-named, ends-empty}
use Rattle.prover_run.proofs.GivenUses.{given-declared}
use Rattle.prover_run.proofs.RunLaws.{accepted-declared}
use Rattle.prover_run.proofs.SmallUses.{refutation-small}
use Rattle.prover_run.proofs.running.refutation_by.Goals as goal

pub rebuild_shared-requires-clause-units : goal.rebuild_shared-requires-clause-units
rebuild_shared-requires-clause-units c =
    let t = c.args.tables.now in
    units-numbered t.basis c.requires.run.running.right.basis t.steps.0 c.requires.run.running.right.clauses

pub rebuild_shared-requires-clause-instances : goal.rebuild_shared-requires-clause-instances
rebuild_shared-requires-clause-instances c =
    let t = c.args.tables.now in
    instances-over t.basis c.requires.run.running.right.basis t.steps.1 c.requires.run.running.made

pub rebuild_shared-requires-clause-closed : goal.rebuild_shared-requires-clause-closed
rebuild_shared-requires-clause-closed c =
    let t = c.args.tables.now in
    let E : List LogEntry → Type 0 = λ log. EndsEmpty log in
    subst E (sym c.log-log.ensures.log) (ends-empty t.solver.log (learned t.solver) c.requires.ends)

pub tables_are_given-requires-clause-instances : goal.tables_are_given-requires-clause-instances
tables_are_given-requires-clause-instances c =
    let t = c.args.tables.now in
    instances-over t.basis c.requires.run.running.right.basis t.steps.1 c.requires.run.running.made

pub returns : goal.returns
unfolding shortly-named
returns c =
    let t = c.args.tables.now in
    let r = c.requires.run.running.right in
    let lines = c.in_ok-refutation.refutation.lines in
    let units = unit_literals (atoms_at t.basis.bank.terms t.basis.lits) t.steps.0 in
    let S : List Literal → Type 0 = λ ls. EachComesFrom ls (clauses_of t) lines in
    let refutation = c.in_ok-refutation.refutation in
    let F : List LogEntry → Type 0 = λ log. AreFew log lines in
    let I : List LogEntry → Type 0 = λ log. IsRebuilt (the_input t.basis.bank t.basis.lits t.steps log t.basis.witnesses) refutation in
    let apart_here = apart t.basis.bank t.basis.lits r.basis.atoms c.equal_ids_for_equal_terms.ensures c.atoms_differ.ensures in
    let over = clauses_number t.basis.bank t.basis.lits r.basis.atoms c.equal_ids_for_equal_terms.ensures c.atoms_differ.ensures (the_clauses t.steps) r.clauses in
    let log = c.log-log.ensures in
    let G : List LogEntry → Type 0 = λ l. IsGiven (without_witnesses t.basis.bank) (start_in t) (the_input t.basis.bank t.basis.lits t.steps l t.basis.witnesses) in
    let given = given-declared t.basis.bank (start_in t) units (the_input t.basis.bank t.basis.lits t.steps c.log-log.result.now t.basis.witnesses) (sym (units-named t.basis r.basis t.steps.0 r.clauses)) c.tables_are_given.ensures in
    record {
      refutes = record {
        accepted = accepted-declared t.basis.bank (start_in t) units c.in_ok-refutation.refutation (sym (units-named t.basis r.basis t.steps.0 r.clauses)) c.in_ok-refutation.ensures.accepted;
        reached = c.in_ok-refutation.ensures.reached;
        small = refutation-small t c.requires.run.plan c.requires.run.running c.log-log.result.now c.clauses_come_from_origins.ensures refutation c.in_ok-refutation.ensures.in_range c.in_ok-refutation.ensures.rebuilt;
        origin = subst S (sym (units-named t.basis r.basis t.steps.0 r.clauses)) (origin-named t.basis r.basis t.steps r.clauses c.log-log.result.now units lines c.clauses_come_from_origins.ensures c.in_ok-refutation.ensures.from_search);
        within = within-named t.basis r.basis t.steps r.clauses t.solver apart_here over r.solver log.sound log.implied c.requires.propagated;
        shortly = shortly-named t.basis r.basis t.steps r.clauses t.solver apart_here over r.solver log.sound log.implied (without_witnesses t.basis.bank) (start_in t) refutation c.clauses_come_from_origins.ensures
            (instances-over t.basis r.basis t.steps.1 c.requires.run.running.made) (subst G log.log given) c.requires.ends
            (subst I log.log c.in_ok-refutation.ensures.rebuilt) (subst F log.log c.in_ok-refutation.ensures.few);
      };
      input = refl;
    }
