use Rattle.std.proofs.Common.{subst, ◌∙◌, arith}
use Rattle.refute_print.specs.Internal.Pieces.{child_piece}
use Rattle.outside.specs.Writing.{Took, Stopped}
use Rattle.refute_share.proofs.Lists.{all_texts-whole}
use Rattle.outside.proofs.Writes.{on_err}
use Rattle.refute_share.proofs.Writes.{took_more, stopped_at}
use Rattle.refute_share.proofs.LineTexts.{children_members}
use Rattle.refute_share.proofs.write_line.write_children.Goals as goal

pub loop-i-preserved : goal.loop-i-preserved
loop-i-preserved g c =
    took_more (λ i x. child_piece i x) c.args.children.now c.loop-i.i c.at.result c.at.ensures c.loop-i.invariant c.in_ok-write_child.ensures.took

pub returns-clause-took : goal.returns-clause-took
returns-clause-took g c =
    subst (λ x. Took g.S.Sink.tells g.S.Sink.written g.S.Sink.faults c.args.sink.now c.loop-i.sink x)
    (all_texts-whole (λ i x. child_piece i x) c.args.children.now c.loop-i.i (omega arith) ∙ children_members c.args.children.now) c.loop-i.invariant

pub returns-in_err-write_child-clause-stopped : goal.returns-in_err-write_child-clause-stopped
returns-in_err-write_child-clause-stopped g c =
    on_err c.from_residual.result
    (subst (λ x. Stopped g.S.Sink.tells g.S.Sink.written g.S.Sink.faults c.args.sink.now c.write_child.new.sink x) (children_members c.args.children.now)
    (stopped_at (λ i x. child_piece i x) c.args.children.now c.loop-i.i c.at.result c.at.ensures c.loop-i.invariant c.in_err-write_child.ensures.stopped))
