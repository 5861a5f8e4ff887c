use Rattle.std.proofs.Common.{subst, ◌++◌, codes, decimal}
use Rattle.outside.specs.Writing.{Stopped}
use Rattle.outside.proofs.Writes.{on_err, stopped_first}
use Rattle.refute_share.proofs.Writes.{took_after, stopped_after, took_same, stopped_same}
use Rattle.refute_share.proofs.LineTexts.{numbered_before}
use Rattle.refute_share.proofs.write_rule.write_two_places.Goals as goal

pub returns-in_err-write_numbered-clause-stopped : goal.returns-in_err-write_numbered-clause-stopped
returns-in_err-write_numbered-clause-stopped g c =
    on_err c.from_residual.result
    (subst (λ x. Stopped g.S.Sink.tells g.S.Sink.written g.S.Sink.faults c.args.sink.now c.write_numbered.new.sink x) (numbered_before c.args.rule.now (decimal c.args.first) (codes ",") (decimal c.args.second ++ codes ")"))
    (stopped_first _ _ c.in_err-write_numbered.ensures.stopped))

pub returns-clause-took : goal.returns-clause-took
returns-clause-took g c =
    took_same _ _ _ _ _ c.write_numbered-2.result _ _ (numbered_before c.args.rule.now (decimal c.args.first) (codes ",") (decimal c.args.second ++ codes ")")) (took_after _ _ _ _ _ c.write_numbered-2.result _ _ c.in_ok-write_numbered.ensures.took c.write_numbered-2.ensures.took)

pub returns-clause-stopped : goal.returns-clause-stopped
returns-clause-stopped g c =
    stopped_same _ _ _ _ _ c.write_numbered-2.result _ _ (numbered_before c.args.rule.now (decimal c.args.first) (codes ",") (decimal c.args.second ++ codes ")")) (stopped_after _ _ _ _ _ c.write_numbered-2.result _ _ c.in_ok-write_numbered.ensures.took c.write_numbered-2.ensures.stopped)
