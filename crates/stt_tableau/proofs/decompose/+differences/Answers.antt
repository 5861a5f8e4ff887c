use Rattle.std.proofs.Common.{ap, ap₂, sym, ◌∙◌, arith}
use Rattle.stt_core.specs.SimpleType.{arrow}
use Rattle.stt_core.specs.View.{the_type}
use Rattle.stt_tableau.proofs.DecompositionInstances.{none_left, none_right, more_differ}
use Rattle.stt_tableau.proofs.decompose.+differences.Goals as goal

pub returns-then-i-len : goal.returns-then-i-len
returns-then-i-len t c = none_left (the_type c.args.ty.now) c.args.ss.now c.args.ts.now c.args.i c.args.done (omega (arith, c.if-i-len.true, c.len.ensures))

pub returns-then-i-len-2 : goal.returns-then-i-len-2
returns-then-i-len-2 t c = none_right (the_type c.args.ty.now) c.args.ss.now c.args.ts.now c.args.i c.args.done (omega (arith, c.if-i-len-2.true, c.len-2.ensures))

pub returns-in_ok-differences-in-Arrow : goal.returns-in_ok-differences-in-Arrow
returns-in_ok-differences-in-Arrow t c =
    more_differ (the_type c.args.ty.now) (the_type c.deref.result.now) (the_type c.deref-in-Arrow.result.now) c.args.ss.now c.args.ts.now c.args.i c.at.result.now c.at-in-Arrow.result.now c.in_ok-lit-in-Arrow.lit c.in_ok-alone-in-Arrow.field-0 c.args.done c.push.new.self c.in_ok-differences-in-Arrow.field-0
    (ap the_type c.in-Arrow.is ∙ ap₂ (λ x y. arrow (the_type x) (the_type y)) (sym c.deref.ensures) (sym c.deref-in-Arrow.ensures))
    c.at.ensures c.at-in-Arrow.ensures c.in_ok-lit-in-Arrow.ensures c.in_ok-alone-in-Arrow.ensures c.in_ok-push-in-Arrow.ensures.ok c.in_ok-differences-in-Arrow.ensures
