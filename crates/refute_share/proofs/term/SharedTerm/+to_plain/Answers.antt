use Rattle.std.proofs.Common.{◌<◌, ◌∙◌, take_all, arith}
use Rattle.stt_core.specs.Lambda.{node_count}
use Rattle.stt_core.specs.View.{the_head}
use Rattle.stt_core.proofs.ListLaws.{copy_more}
use Rattle.stt_core.proofs.SizeLaws.{argument_smaller}
use Rattle.stt_core.proofs.SpineLaws.{same_whole}
use Rattle.refute_share.proofs.term.SharedTerm.+to_plain.Goals as goal

pub to_plain-requires : goal.to_plain-requires
to_plain-requires t c =
    let i = c.self.inside in
    let h : node_count c.at.result.now < node_count c.args.self.now = argument_smaller i.binders (the_head i.head) i.args c.args.self.now c.self.view_is c.loop-i.i c.at.result.now c.at.ensures in
    (omega (arith, c.decreases, h), tt)

pub loop-i-preserved : goal.loop-i-preserved
loop-i-preserved t c =
    copy_more c.self.inside.args c.loop-i.i c.at.result.now c.loop-i.args c.push.new.self c.in_ok-argument.argument c.at.ensures c.loop-i.invariant c.in_ok-argument.ensures c.in_ok-push.ensures.ok

pub returns : goal.returns
returns t c =
    let i = c.self.inside in
    same_whole c.in_ok-try_clone.field-0 i.binders (the_head c.in_ok-try_clone-2.field-0) (the_head i.head) c.loop-i.args i.args c.args.self.now c.in_ok-try_clone.ensures c.in_ok-try_clone-2.ensures
    (c.loop-i.invariant ∙ take_all c.loop-i.i i.args (omega (arith, c.len-i-end.ensures)))
    c.self.view_is
