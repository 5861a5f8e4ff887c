use Rattle.std.proofs.Common.{ap, ◌∙◌, ◌-◌, take, take_all, arith}
use Rattle.stt_core.specs.View.{the_head}
use Rattle.stt_core.proofs.OccurrenceLaws.{missing_more, missing_whole}
use Rattle.stt_core.proofs.SizeLaws.{argument_smaller}
use Rattle.stt_core.proofs.measure.+missing_around.Goals as goal

pub missing_around-requires : goal.missing_around-requires
missing_around-requires t c =
    let i = c.nf.inside in
    let smaller = argument_smaller i.binders (the_head i.head) i.args c.args.nf.now c.nf.view_is c.loop-i.i c.at.result.now c.at.ensures in
    (omega (arith, c.decreases, smaller), tt)

pub loop-i-preserved : goal.loop-i-preserved
loop-i-preserved t c =
    let i = c.nf.inside in
    missing_more (the_head i.head) i.args c.loop-i.i c.at.result.now c.loop-i.missing c.missing_around.result c.max-missing.result c.at.ensures c.loop-i.invariant c.missing_around.ensures c.max-missing.ensures

pub returns : goal.returns
returns t c =
    let i = c.nf.inside in
    missing_whole i.binders (the_head i.head) i.args (take c.loop-i.i i.args) c.args.nf.now c.loop-i.missing c.saturating_sub.result c.loop-i.invariant
    (c.saturating_sub.ensures ∙ ap (λ n. c.loop-i.missing - n) c.len.ensures)
    (take_all c.loop-i.i i.args (omega (arith, c.len-i-end.ensures)))
    c.nf.view_is
