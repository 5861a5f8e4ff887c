use Rattle.std.proofs.Common.{subst, ap, codes, decimal}
use Rattle.tableau_calculus.specs.declared.refutation.Line.{Line}
use Rattle.outside.specs.Writing.{Stopped}
use Rattle.outside.proofs.Writes.{on_err, stopped_first, stopped_later}
use Rattle.refute_share.proofs.Writes.{took_after, stopped_after, took_same, stopped_same}
use Rattle.refute_share.proofs.LineTexts.{numbered_before}
use Rattle.refute_share.proofs.write_line.write_line.Goals as goal

pub returns-in_err-write_numbered-clause-stopped : goal.returns-in_err-write_numbered-clause-stopped
returns-in_err-write_numbered-clause-stopped g c =
    on_err c.from_residual.result
    (subst (λ x. Stopped g.S.Sink.tells g.S.Sink.written g.S.Sink.faults c.args.sink.now c.write_numbered.new.sink x) (numbered_before (codes "") (decimal c.args.number) (codes ": ") _)
    (stopped_first _ _ c.in_err-write_numbered.ensures.stopped))

pub returns-in_err-write_rule-clause-stopped : goal.returns-in_err-write_rule-clause-stopped
returns-in_err-write_rule-clause-stopped g c =
    rw (← (ap (λ (l : Line). l.rule) c.line.view_is)) (on_err c.from_residual-in_err-write_rule.result
    (subst (λ x. Stopped g.S.Sink.tells g.S.Sink.written g.S.Sink.faults c.args.sink.now c.write_rule.new.sink x) (numbered_before (codes "") (decimal c.args.number) (codes ": ") _)
    (stopped_later _ _ c.in_ok-write_numbered.ensures.took (stopped_first _ _ c.in_err-write_rule.ensures.stopped))))

pub returns-clause-took : goal.returns-clause-took
returns-clause-took g c =
    let r = c.write_line_end.result in
    rw (← (ap (λ (l : Line). l.rule) c.line.view_is)) (took_same _ _ _ _ _ r _ _ (numbered_before (codes "") (decimal c.args.number) (codes ": ") _) (took_after _ _ _ _ _ r _ _ c.in_ok-write_numbered.ensures.took (took_after _ _ _ _ _ r _ _ c.in_ok-write_rule.ensures.took c.write_line_end.ensures.took)))

pub returns-clause-stopped : goal.returns-clause-stopped
returns-clause-stopped g c =
    let r = c.write_line_end.result in
    rw (← (ap (λ (l : Line). l.rule) c.line.view_is)) (stopped_same _ _ _ _ _ r _ _ (numbered_before (codes "") (decimal c.args.number) (codes ": ") _) (stopped_after _ _ _ _ _ r _ _ c.in_ok-write_numbered.ensures.took (stopped_after _ _ _ _ _ r _ _ c.in_ok-write_rule.ensures.took c.write_line_end.ensures.stopped)))
