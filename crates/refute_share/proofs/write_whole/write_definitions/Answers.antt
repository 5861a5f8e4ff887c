use Rattle.std.proofs.Common.{subst, ◌∙◌, arith}
use Rattle.std.proofs.lemmas.List.{length-map}
use Rattle.refute_print.specs.Named.{names_of}
use Rattle.refute_print.specs.Internal.Pieces.{definition_line}
use Rattle.outside.specs.Writing.{Took, Stopped}
use Rattle.refute_share.proofs.Lists.{all_texts-whole, got}
use Rattle.outside.proofs.Writes.{on_err}
use Rattle.refute_share.proofs.Writes.{took_more, stopped_at}
use Rattle.refute_share.proofs.LineTexts.{definition_members, place_there}
use Rattle.refute_share.proofs.write_whole.write_definitions.Goals as goal

pub write_definition-requires : goal.write_definition-requires
write_definition-requires g c =
    let consts = c.args.sig.now.consts in
    let below = place_there (names_of c.args.sig.now.bases consts) c.args.taken.now c.loop-i.i _ (got c.args.taken.now c.loop-i.i c.loop-i-test.true) c.requires in
    omega (arith, below, length-map consts (λ k. k.name))

pub loop-i-preserved : goal.loop-i-preserved
loop-i-preserved g c =
    let names = names_of c.args.sig.now.bases c.args.sig.now.consts in
    took_more (λ i k. definition_line names k) c.args.taken.now c.loop-i.i _ (got c.args.taken.now c.loop-i.i c.loop-i-test.true) c.loop-i.invariant c.in_ok-write_definition.ensures.took

pub returns-clause-took : goal.returns-clause-took
returns-clause-took g c =
    let names = names_of c.args.sig.now.bases c.args.sig.now.consts in
    subst (λ t. Took g.S.Sink.tells g.S.Sink.written g.S.Sink.faults c.args.sink.now c.loop-i.sink t)
    (all_texts-whole (λ i k. definition_line names k) c.args.taken.now c.loop-i.i (omega arith) ∙ definition_members names 0 c.args.taken.now) c.loop-i.invariant

pub returns-in_err-write_definition-clause-stopped : goal.returns-in_err-write_definition-clause-stopped
returns-in_err-write_definition-clause-stopped g c =
    let names = names_of c.args.sig.now.bases c.args.sig.now.consts in
    on_err c.from_residual.result
    (subst (λ t. Stopped g.S.Sink.tells g.S.Sink.written g.S.Sink.faults c.args.sink.now c.write_definition.new.sink t) (definition_members names 0 c.args.taken.now)
    (stopped_at (λ i k. definition_line names k) c.args.taken.now c.loop-i.i _ (got c.args.taken.now c.loop-i.i c.loop-i-test.true) c.loop-i.invariant c.in_err-write_definition.ensures.stopped))
