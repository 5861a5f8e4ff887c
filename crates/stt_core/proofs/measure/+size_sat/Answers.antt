use Rattle.std.proofs.Common.{◌+◌, ◌-◌, ◌^◌, min, ap, ◌∙◌, length, take, take_all, arith}
use Rattle.stt_core.specs.View.{the_head}
use Rattle.stt_core.proofs.HeadLaws.{atom_head}
use Rattle.stt_core.proofs.OccurrenceLaws.{counted_more, counted_whole}
use Rattle.stt_core.proofs.SizeLaws.{argument_smaller}
use Rattle.stt_core.proofs.measure.+size_sat.Goals as goal

pub size_sat-requires : goal.size_sat-requires
size_sat-requires t c =
    let i = c.nf.inside in
    let smaller = argument_smaller i.binders (the_head i.head) i.args c.args.nf.now c.nf.view_is c.loop-i.i c.at.result.now c.at.ensures in
    (omega (arith, c.decreases, smaller), tt)

pub loop-i-preserved : goal.loop-i-preserved
loop-i-preserved t c =
    let i = c.nf.inside in
    counted_more i.args c.loop-i.i (length i.binders + 1) (2 ^ 64 - 1) c.at.result.now c.loop-i.size c.size_sat.result c.saturating_add-size-in-loop-i.result c.at.ensures c.loop-i.invariant c.size_sat.ensures
    (c.saturating_add-size-in-loop-i.ensures ∙ ap (λ x. min (x + c.size_sat.result) (2 ^ 64 - 1)) c.saturating_add.ensures)

pub returns : goal.returns
returns t c =
    let i = c.nf.inside in
    counted_whole i.binders (the_head i.head) i.args (take c.loop-i.i i.args) c.args.nf.now (2 ^ 64 - 1) c.loop-i.size (atom_head i.head) c.loop-i.invariant
    (take_all c.loop-i.i i.args (omega (arith, c.len-i-end.ensures)))
    c.nf.view_is
