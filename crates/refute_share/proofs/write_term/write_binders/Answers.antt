use Rattle.std.proofs.Common.{subst, ◌∙◌, arith}
use Rattle.refute_print.specs.Named.{names_of}
use Rattle.refute_print.specs.Internal.Pieces.{lambda_piece}
use Rattle.outside.specs.Writing.{Took, Stopped}
use Rattle.refute_share.proofs.Lists.{flat_map-all_texts, all_texts-whole}
use Rattle.refute_share.proofs.TermTexts.{binder_named}
use Rattle.outside.proofs.Writes.{on_err}
use Rattle.refute_share.proofs.Writes.{took_more, stopped_at}
use Rattle.refute_share.proofs.write_term.write_binders.Goals as goal

pub write_around_type-requires : goal.write_around_type-requires
write_around_type-requires g c = binder_named (names_of c.args.sig.now.bases c.args.sig.now.consts) c.args.binders.now c.loop-i.i _ c.at.ensures c.requires

pub loop-i-preserved : goal.loop-i-preserved
loop-i-preserved g c =
    took_more (λ k a. lambda_piece (names_of c.args.sig.now.bases c.args.sig.now.consts) a) c.args.binders.now c.loop-i.i _ c.at.ensures c.loop-i.invariant c.in_ok-write_around_type.ensures.took

pub returns-clause-took : goal.returns-clause-took
returns-clause-took g c =
    let names = names_of c.args.sig.now.bases c.args.sig.now.consts in
    subst (λ t. Took g.S.Sink.tells g.S.Sink.written g.S.Sink.faults c.args.sink.now c.loop-i.sink t)
    (all_texts-whole (λ k a. lambda_piece names a) c.args.binders.now c.loop-i.i (omega arith) ∙ flat_map-all_texts (lambda_piece names) 0 c.args.binders.now) c.loop-i.invariant

pub returns-in_err-write_around_type-clause-stopped : goal.returns-in_err-write_around_type-clause-stopped
returns-in_err-write_around_type-clause-stopped g c =
    let names = names_of c.args.sig.now.bases c.args.sig.now.consts in
    on_err c.from_residual.result
    (subst (λ t. Stopped g.S.Sink.tells g.S.Sink.written g.S.Sink.faults c.args.sink.now c.write_around_type.new.sink t) (flat_map-all_texts (lambda_piece names) 0 c.args.binders.now)
    (stopped_at (λ k a. lambda_piece names a) c.args.binders.now c.loop-i.i _ c.at.ensures c.loop-i.invariant c.in_err-write_around_type.ensures.stopped))
