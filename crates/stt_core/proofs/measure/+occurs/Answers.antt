use Rattle.std.proofs.Common.{take, take_all, refl, arith}
use Rattle.stt_core.specs.Lambda.{name}
use Rattle.stt_core.specs.View.{the_head}
use Rattle.stt_core.proofs.OccurrenceLaws.{occurs_in_head, occurs_in_argument, occurs_in_neither, occurs_nowhere}
use Rattle.stt_core.proofs.SizeLaws.{argument_smaller}
use Rattle.stt_core.proofs.measure.+occurs.Goals as goal

pub occurs-requires : goal.occurs-requires
occurs-requires t c =
    let i = c.nf.inside in
    let smaller = argument_smaller i.binders (the_head i.head) i.args c.args.nf.now c.nf.view_is c.loop-i.i c.at.result.now c.at.ensures in
    (omega (arith, c.decreases, smaller), tt)

pub returns-then-is_name : goal.returns-then-is_name
returns-then-is_name t c =
    let i = c.nf.inside in
    (λ _. occurs_in_head (name c.args.place) i.binders (the_head i.head) i.args c.args.nf.now c.nf.view_is (c.is_name.ensures.0 c.if-is_name.true), λ _. refl)

pub returns-then-occurs : goal.returns-then-occurs
returns-then-occurs t c =
    let i = c.nf.inside in
    (λ _. occurs_in_argument (name c.args.place) i.binders (the_head i.head) i.args c.args.nf.now c.loop-i.i c.at.result.now c.nf.view_is c.at.ensures (c.occurs.ensures.0 c.if-occurs.true), λ _. refl)

pub loop-i-preserved : goal.loop-i-preserved
loop-i-preserved t c =
    let i = c.nf.inside in
    occurs_in_neither (name c.args.place) (the_head i.head) i.args c.loop-i.i c.at.result.now c.at.ensures c.loop-i.invariant (λ o. let e = c.occurs.ensures.1 o in cc)

pub returns : goal.returns
returns t c =
    let i = c.nf.inside in
    let nowhere = occurs_nowhere (name c.args.place) i.binders (the_head i.head) i.args (take c.loop-i.i i.args) c.args.nf.now c.nf.view_is (take_all c.loop-i.i i.args (omega (arith, c.len-i-end.ensures))) c.loop-i.invariant in
    (λ e. cc, λ o. absurd (nowhere o))
