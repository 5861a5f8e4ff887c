use Rattle.std.proofs.Common.{◌≤◌, ◌^◌, ◌++◌, ℕ, length, refl, sym, subst}
use Rattle.sat_log.specs.Propagation.{AreFailingDecisions}
use Rattle.sat_core.specs.Solver.{learned, AreAmong}
use Rattle.search_spec.specs.State.{State}
use Rattle.search_spec.specs.Unsatisfiable.{Unsatisfiable}
use Rattle.search_spec.specs.Result.{IsExhausted, IsStopped}
use Rattle.prover_state.specs.Internal.Standing.{setting_by, the_state}
use Rattle.prover_state.proofs.NumberLaws.{apart, clauses_number}
use Rattle.prover_search.specs.Internal.Running.{start_in}
use Rattle.prover_search.specs.Internal.Answers.{AnswersStep}
use Rattle.prover_search.specs.declared.stepped.Stepped.{Stepped}
use Rattle.prover_run.specs.Learning.{AreSpent}
use Rattle.prover_run.proofs.RunLaws.{is-exhausted, is-stopped}
use Rattle.prover_run.proofs.RebuildUses.{learning-named}
use Rattle.mode_schedule.proofs.turn.look.Goals as goal

pub returns-in-Closed-clause-found : goal.returns-in-Closed-clause-found
returns-in-Closed-clause-found g c = λ until.
    let t = c.args.search.now.core.tables in
    let q = c.args.search.now.core.plan in
    let A : Stepped → Type 0 = λ s. AnswersStep (record { tables = t; plan = q }) (record { tables = c.step.new.self.core.tables; plan = c.step.new.self.core.plan }) s in
    let closed = subst A c.in-Closed.is c.in_ok-step.ensures.answers in
    record { until = until; state = the_state t q; comes_to = c.requires.under_way.running.comes_to; unsatisfiable = closed.unsatisfiable }

pub returns-in-Closed-clause-closes : goal.returns-in-Closed-clause-closes
returns-in-Closed-clause-closes g c =
    let t = c.args.search.now.core.tables in
    let q = c.args.search.now.core.plan in
    let A : Stepped → Type 0 = λ s. AnswersStep (record { tables = t; plan = q }) (record { tables = c.step.new.self.core.tables; plan = c.step.new.self.core.plan }) s in
    let U : State → Type 0 = λ s. Unsatisfiable s.clauses in
    let closed = subst A c.in-Closed.is c.in_ok-step.ensures.answers in
    record { unsatisfiable = subst U (sym closed.stays.state) closed.unsatisfiable; ends = closed.ends; propagated = closed.propagated }

pub returns-in-Empty-clause-found : goal.returns-in-Empty-clause-found
returns-in-Empty-clause-found g c = λ until.
    let t = c.args.search.now.core.tables in
    let q = c.args.search.now.core.plan in
    let A : Stepped → Type 0 = λ s. AnswersStep (record { tables = t; plan = q }) (record { tables = c.step.new.self.core.tables; plan = c.step.new.self.core.plan }) s in
    let P : ℕ → Type 0 = λ n. IsExhausted (setting_by t q) (start_in t) n in
    let here = subst A c.in-Empty.is c.in_ok-step.ensures.answers in
    subst P here.stays.done (is-exhausted t q c.requires.under_way.running _ _ here until)

pub returns-in-Limit-clause-found : goal.returns-in-Limit-clause-found
returns-in-Limit-clause-found g c = λ until.
    let t = c.args.search.now.core.tables in
    let q = c.args.search.now.core.plan in
    let A : Stepped → Type 0 = λ s. AnswersStep (record { tables = t; plan = q }) (record { tables = c.step.new.self.core.tables; plan = c.step.new.self.core.plan }) s in
    let P : ℕ → Type 0 = λ n. IsStopped (setting_by t q) (start_in t) n in
    let here = subst A c.in-Limit.is c.in_ok-step.ensures.answers in
    subst P here.stays.done (is-stopped t q c.requires.under_way.running _ _ here until)

pub returns-in-Spent-clause-found : goal.returns-in-Spent-clause-found
returns-in-Spent-clause-found g c = λ until.
    let t = c.args.search.now.core.tables in
    let q = c.args.search.now.core.plan in
    let u = c.step.new.self.core.tables in
    let p = c.step.new.self.core.plan in
    let A : Stepped → Type 0 = λ s. AnswersStep (record { tables = t; plan = q }) (record { tables = u; plan = p }) s in
    let right = (c.in_ok-step.ensures.under_way c.in_ok-step.ensures.ready).running.right in
    let spends = subst A c.in-Spent.is c.in_ok-step.ensures.answers in
    let conflicts = c.in-Spent.conflicts in
    let apart_here = apart u.basis.bank u.basis.lits right.basis.atoms c.equal_ids_for_equal_terms.ensures c.atoms_differ.ensures in
    let over = clauses_number u.basis.bank u.basis.lits right.basis.atoms c.equal_ids_for_equal_terms.ensures c.atoms_differ.ensures _ right.clauses in
    record {
      spent = record {
        is_budget = spends.reported;
        commands = t.done;
        until = until;
        state = the_state t q;
        comes_to = c.requires.under_way.running.comes_to;
        spent = subst (λ (s : State). AreSpent s.clauses conflicts) spends.stays.state
            (record {
              learning = learning-named u.basis right.basis u.steps right.clauses u.solver apart_here over right.solver c.log-log.ensures.sound c.log-log.ensures.implied;
              counted = spends.counted;
              decisions = spends.decisions;
              failing = subst (λ cs. AreFailingDecisions (cs ++ learned u.solver) spends.decisions) right.solver spends.failing;
              few = subst (λ cs. (variables : _) → AreAmong variables cs → 3 ^ length variables ≤ conflicts → ⊥) right.solver spends.few;
            });
      };
      after = refl;
    }
