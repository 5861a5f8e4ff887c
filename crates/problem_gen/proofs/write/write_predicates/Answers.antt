use Rattle.std.proofs.Common.{List, ℕ, sym, subst}
use Rattle.problem_gen.specs.Chain.{predicate_letter}
use Rattle.outside.specs.Writing.{Took}
use Rattle.outside.proofs.Writes.{on_err, took_none}
use Rattle.problem_gen.proofs.Lines.{lines_below-zero, took_next, stopped_at}
use Rattle.problem_gen.proofs.write.write_predicates.Goals as goal

pub loop-k-init : goal.loop-k-init
loop-k-init g c =
    let sink = g.S.Sink in
    subst (λ (bytes : List ℕ). Took sink.tells sink.written sink.faults c.args.sink.now c.args.sink.now bytes) (sym (lines_below-zero predicate_letter)) (took_none c.args.sink.now)

pub loop-k-preserved : goal.loop-k-preserved
loop-k-preserved g c = took_next predicate_letter c.loop-k.k c.loop-k.invariant c.in_ok-write_predicate.ensures.took

pub returns-in_err-write_predicate-clause-stopped : goal.returns-in_err-write_predicate-clause-stopped
returns-in_err-write_predicate-clause-stopped g c =
    on_err c.from_residual.result (stopped_at predicate_letter c.loop-k.k c.args.end c.loop-k-test.true c.loop-k.invariant c.in_err-write_predicate.ensures.stopped)
