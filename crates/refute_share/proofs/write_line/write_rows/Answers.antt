use Rattle.std.proofs.Common.{subst, ◌∙◌, arith}
use Rattle.refute_print.specs.Named.{names_of}
use Rattle.refute_print.specs.Internal.Pieces.{row_line}
use Rattle.outside.specs.Writing.{Took, Stopped}
use Rattle.refute_share.proofs.Lists.{all_texts-whole}
use Rattle.outside.proofs.Writes.{on_err}
use Rattle.refute_share.proofs.Writes.{took_more, stopped_at}
use Rattle.refute_share.proofs.LineTexts.{row_members, row_named}
use Rattle.refute_share.proofs.write_line.write_rows.Goals as goal

pub write_row-requires : goal.write_row-requires
write_row-requires g c = row_named (names_of c.args.sig.now.bases c.args.sig.now.consts) c.args.rows.now c.loop-i.i _ c.at.ensures c.requires

pub loop-i-preserved : goal.loop-i-preserved
loop-i-preserved g c =
    let names = names_of c.args.sig.now.bases c.args.sig.now.consts in
    took_more (λ i x. row_line names i x) c.args.rows.now c.loop-i.i c.at.result.now c.at.ensures c.loop-i.invariant c.in_ok-write_row.ensures.took

pub returns-clause-took : goal.returns-clause-took
returns-clause-took g c =
    let names = names_of c.args.sig.now.bases c.args.sig.now.consts in
    subst (λ x. Took g.S.Sink.tells g.S.Sink.written g.S.Sink.faults c.args.sink.now c.loop-i.sink x)
    (all_texts-whole (λ i x. row_line names i x) c.args.rows.now c.loop-i.i (omega arith) ∙ row_members names 0 c.args.rows.now) c.loop-i.invariant

pub returns-in_err-write_row-clause-stopped : goal.returns-in_err-write_row-clause-stopped
returns-in_err-write_row-clause-stopped g c =
    let names = names_of c.args.sig.now.bases c.args.sig.now.consts in
    on_err c.from_residual.result
    (subst (λ x. Stopped g.S.Sink.tells g.S.Sink.written g.S.Sink.faults c.args.sink.now c.write_row.new.sink x) (row_members names 0 c.args.rows.now)
    (stopped_at (λ i x. row_line names i x) c.args.rows.now c.loop-i.i c.at.result.now c.at.ensures c.loop-i.invariant c.in_err-write_row.ensures.stopped))
