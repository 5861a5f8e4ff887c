use Rattle.std.proofs.Common.{refl, sym, ap, subst, ◌∙◌, arith}
use Rattle.mode_file.specs.declared.Mode.{Mode}
use Rattle.search_spec.specs.Unsatisfiable.{Unsatisfiable}
use Rattle.search_spec.specs.State.{State}
use Rattle.prover_search.proofs.RunLaws.{some-wait, none-waits, state-solved, done-solved, running-solved, goes-on-solved}
use Rattle.prover_search.proofs.advance.advance.Goals as goal

pub returns-in-Unsat-clause-running : goal.returns-in-Unsat-clause-running
returns-in-Unsat-clause-running g c =
    let core = c.args.core.now in
    let u = c.solve.new.self in
    let tables = c.solve.ensures.tables in
    let plan = c.solve.ensures.plan in
    running-solved core.tables u.tables core.plan u.plan tables plan c.requires.running c.solve.ensures.right

pub returns-in-Spent-clause-running : goal.returns-in-Spent-clause-running
returns-in-Spent-clause-running g c =
    let core = c.args.core.now in
    let u = c.solve.new.self in
    let tables = c.solve.ensures.tables in
    let plan = c.solve.ensures.plan in
    running-solved core.tables u.tables core.plan u.plan tables plan c.requires.running c.solve.ensures.right

pub returns-then-is_empty-clause-running : goal.returns-then-is_empty-clause-running
returns-then-is_empty-clause-running g c =
    let core = c.args.core.now in
    let u = c.solve.new.self in
    let tables = c.solve.ensures.tables in
    let plan = c.solve.ensures.plan in
    running-solved core.tables u.tables core.plan u.plan tables plan c.requires.running c.solve.ensures.right

pub returns-then-core-mode-clause-running : goal.returns-then-core-mode-clause-running
returns-then-core-mode-clause-running g c =
    let core = c.args.core.now in
    let u = c.solve.new.self in
    let tables = c.solve.ensures.tables in
    let plan = c.solve.ensures.plan in
    running-solved core.tables u.tables core.plan u.plan tables plan c.requires.running c.solve.ensures.right

pub go-requires-clause-running : goal.go-requires-clause-running
go-requires-clause-running g c =
    let core = c.args.core.now in
    let u = c.solve.new.self in
    let tables = c.solve.ensures.tables in
    let plan = c.solve.ensures.plan in
    running-solved core.tables u.tables core.plan u.plan tables plan c.requires.running c.solve.ensures.right

pub returns-in-Unsat-clause-answers : goal.returns-in-Unsat-clause-answers
returns-in-Unsat-clause-answers g c =
    let core = c.args.core.now in
    let u = c.solve.new.self in
    let tables = c.solve.ensures.tables in
    let plan = c.solve.ensures.plan in
    record {
      unsatisfiable = c.in_ok-solve.ensures.unsat c.in-Unsat.is;
      stays = record { state = state-solved core.tables u.tables core.plan u.plan tables plan; done = done-solved core.tables u.tables core.plan u.plan tables plan };
      ends = c.log-log.ensures.sound.ends (c.in_ok-solve.ensures.ends c.in-Unsat.is);
      propagated = c.in_ok-solve.ensures.propagated c.in-Unsat.is;
    }

pub returns-in-Spent-clause-answers : goal.returns-in-Spent-clause-answers
returns-in-Spent-clause-answers g c =
    let core = c.args.core.now in
    let u = c.solve.new.self in
    let tables = c.solve.ensures.tables in
    let plan = c.solve.ensures.plan in
    let reported = c.in_ok-solve.ensures.reported c.in-Spent.conflicts c.in-Spent.is in
    let failing = c.in_ok-solve.ensures.failing c.in-Spent.conflicts c.in-Spent.is in
    record {
      reported = reported ∙ sym (ap (λ (m : Mode). m.conflicts) c.requires.mode);
      counted = c.in_ok-solve.ensures.counted c.in-Spent.conflicts c.in-Spent.is ∙ sym reported;
      decisions = failing.0;
      failing = failing.1;
      few = λ variables among h. c.in_ok-solve.ensures.enough c.in-Spent.conflicts variables among (omega (arith, h, reported)) c.in-Spent.is;
      stays = record { state = state-solved core.tables u.tables core.plan u.plan tables plan; done = done-solved core.tables u.tables core.plan u.plan tables plan };
    }

pub returns-then-is_empty-clause-answers : goal.returns-then-is_empty-clause-answers
returns-then-is_empty-clause-answers g c =
    let core = c.args.core.now in
    let u = c.solve.new.self in
    let tables = c.solve.ensures.tables in
    let plan = c.solve.ensures.plan in
    record {
      satisfiable = c.in_ok-solve.ensures.sat c.in-Sat.is;
      none_left = sym (ap (λ (s : State). s.queue) (state-solved core.tables u.tables core.plan u.plan tables plan)) ∙ none-waits u.tables u.plan (c.if-is_empty.ensures.0 refl);
      stays = record { state = state-solved core.tables u.tables core.plan u.plan tables plan; done = done-solved core.tables u.tables core.plan u.plan tables plan };
    }

pub returns-then-core-mode-clause-answers : goal.returns-then-core-mode-clause-answers
returns-then-core-mode-clause-answers g c =
    let core = c.args.core.now in
    let u = c.solve.new.self in
    let tables = c.solve.ensures.tables in
    let plan = c.solve.ensures.plan in
    record {
      satisfiable = c.in_ok-solve.ensures.sat c.in-Sat.is;
      some_left = λ e. some-wait u.tables u.plan.entries (λ h. let k = c.if-is_empty.ensures.1 h in cc) (ap (λ (s : State). s.queue) (state-solved core.tables u.tables core.plan u.plan tables plan) ∙ e);
      at_limit = sym (done-solved core.tables u.tables core.plan u.plan tables plan) ∙ c.if-core-mode.true ∙ sym (ap (λ (m : Mode). m.commands) c.requires.mode);
      stays = record { state = state-solved core.tables u.tables core.plan u.plan tables plan; done = done-solved core.tables u.tables core.plan u.plan tables plan };
    }

pub go-requires-clause-satisfiable : goal.go-requires-clause-satisfiable
go-requires-clause-satisfiable g c =
    let core = c.args.core.now in
    let u = c.solve.new.self in
    let tables = c.solve.ensures.tables in
    let plan = c.solve.ensures.plan in
    let U : State → Type 0 = λ s. Unsatisfiable s.clauses in
    λ un. c.in_ok-solve.ensures.sat c.in-Sat.is (subst U (state-solved core.tables u.tables core.plan u.plan tables plan) un)

pub returns-clause-answers : goal.returns-clause-answers
returns-clause-answers g c =
    let core = c.args.core.now in
    let u = c.solve.new.self in
    let tables = c.solve.ensures.tables in
    let plan = c.solve.ensures.plan in
    goes-on-solved core.tables u.tables core.plan u.plan tables plan c.go.new.core.tables c.go.new.core.plan c.in_ok-go.ensures.goes_on
