use Rattle.std.proofs.Common.{List, ℕ, sym, subst}
use Rattle.problem_gen.specs.Chain.{implication}
use Rattle.outside.specs.Writing.{Took}
use Rattle.outside.proofs.Writes.{on_err, took_none}
use Rattle.problem_gen.proofs.Lines.{lines_below-zero, took_next, stopped_at}
use Rattle.problem_gen.proofs.write.write_implications.Goals as goal

pub loop-j-init : goal.loop-j-init
loop-j-init g c =
    let sink = g.S.Sink in
    subst (λ (bytes : List ℕ). Took sink.tells sink.written sink.faults c.args.sink.now c.args.sink.now bytes) (sym (lines_below-zero implication)) (took_none c.args.sink.now)

pub loop-j-preserved : goal.loop-j-preserved
loop-j-preserved g c = took_next implication c.loop-j.j c.loop-j.invariant c.in_ok-write_implication.ensures.took

pub returns-in_err-write_implication-clause-stopped : goal.returns-in_err-write_implication-clause-stopped
returns-in_err-write_implication-clause-stopped g c =
    on_err c.from_residual.result (stopped_at implication c.loop-j.j c.args.end c.loop-j-test.true c.loop-j.invariant c.in_err-write_implication.ensures.stopped)
