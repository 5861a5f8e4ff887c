use Rattle.std.proofs.Common.{ap, ◌∙◌, ◌<◌, ◌+◌, ◌++◌, take, arith, take_all}
use Rattle.stt_core.specs.Lambda.{node_count}
use Rattle.stt_core.specs.View.{the_head}
use Rattle.stt_core.proofs.ListLaws.{map_more}
use Rattle.stt_core.proofs.SizeLaws.{argument_smaller}
use Rattle.stt_core.specs.Lift.{lift_by}
use Rattle.normal_forms.proofs.Spines.{lifted_whole}
use Rattle.stt_normal.proofs.lift.+lift_nf.Goals as goal

pub lift_nf-requires : goal.lift_nf-requires
lift_nf-requires t c =
    let i = c.nf.inside in
    let h : node_count c.at.result.now < node_count c.args.nf.now = argument_smaller i.binders (the_head i.head) i.args c.args.nf.now c.nf.view_is c.loop-i.i c.at.result.now c.at.ensures in
    (omega (arith, c.decreases), tt)

pub loop-i-preserved : goal.loop-i-preserved
loop-i-preserved t c =
    map_more (lift_by c.args.by c.in_ok-inner.inner) c.nf.inside.args c.loop-i.i c.at.result.now c.loop-i.args c.push.new.self c.in_ok-arg.arg c.at.ensures c.loop-i.invariant c.in_ok-arg.ensures c.in_ok-push.ensures.ok

pub returns : goal.returns
returns t c =
    let i = c.nf.inside in
    lifted_whole c.args.by c.args.from c.in_ok-inner.inner i.binders c.append.new.types (the_head i.head) (the_head c.in_ok-head.head) i.args c.loop-i.args (take c.loop-i.i i.args) c.args.nf.now
    (c.in_ok-inner.ensures ∙ ap (λ n. c.args.from + n) c.len.ensures)
    (c.in_ok-append.ensures ∙ ap (λ l. l ++ i.binders) c.new-binders.ensures)
    c.in_ok-head.ensures
    c.loop-i.invariant
    (take_all c.loop-i.i i.args (omega (arith, c.len-i-end.ensures)))
    c.nf.view_is
