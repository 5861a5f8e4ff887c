use Rattle.std.proofs.Common.{subst, ◌∙◌, arith}
use Rattle.refute_print.specs.Named.{names_of}
use Rattle.refute_print.specs.Internal.Pieces.{literal_piece}
use Rattle.outside.specs.Writing.{Took, Stopped}
use Rattle.refute_share.proofs.Lists.{all_texts-whole}
use Rattle.outside.proofs.Writes.{on_err}
use Rattle.refute_share.proofs.Writes.{took_more, stopped_at}
use Rattle.refute_share.proofs.LineTexts.{branch_members, literal_named}
use Rattle.refute_share.proofs.write_line.write_branch.Goals as goal

pub write_literal_at-requires : goal.write_literal_at-requires
write_literal_at-requires g c = literal_named (names_of c.args.sig.now.bases c.args.sig.now.consts) c.args.branch.now c.loop-i.i _ c.at.ensures c.requires

pub loop-i-preserved : goal.loop-i-preserved
loop-i-preserved g c =
    let names = names_of c.args.sig.now.bases c.args.sig.now.consts in
    took_more (λ i x. literal_piece names i x) c.args.branch.now c.loop-i.i c.at.result.now c.at.ensures c.loop-i.invariant c.in_ok-write_literal_at.ensures.took

pub returns-clause-took : goal.returns-clause-took
returns-clause-took g c =
    let names = names_of c.args.sig.now.bases c.args.sig.now.consts in
    subst (λ x. Took g.S.Sink.tells g.S.Sink.written g.S.Sink.faults c.args.sink.now c.loop-i.sink x)
    (all_texts-whole (λ i x. literal_piece names i x) c.args.branch.now c.loop-i.i (omega arith) ∙ branch_members names c.args.branch.now) c.loop-i.invariant

pub returns-in_err-write_literal_at-clause-stopped : goal.returns-in_err-write_literal_at-clause-stopped
returns-in_err-write_literal_at-clause-stopped g c =
    let names = names_of c.args.sig.now.bases c.args.sig.now.consts in
    on_err c.from_residual.result
    (subst (λ x. Stopped g.S.Sink.tells g.S.Sink.written g.S.Sink.faults c.args.sink.now c.write_literal_at.new.sink x) (branch_members names c.args.branch.now)
    (stopped_at (λ i x. literal_piece names i x) c.args.branch.now c.loop-i.i c.at.result.now c.at.ensures c.loop-i.invariant c.in_err-write_literal_at.ensures.stopped))
