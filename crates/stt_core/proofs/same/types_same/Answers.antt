use Rattle.std.proofs.Common.{sym}
use Rattle.stt_core.specs.View.{the_type}
use Rattle.stt_core.proofs.ListLaws.{take_both, differ_at}
use Rattle.stt_core.proofs.TypeLaws.{same_type-true, differ_type}
use Rattle.stt_core.proofs.same.types_same.Goals as goal

pub returns-then-not-same : goal.returns-then-not-same
returns-then-not-same c =
    let a = the_type c.at.result.now in
    let b = the_type c.at-in-loop-i.result.now in
    (λ h. cc, λ h. absurd (differ_at c.args.a.now c.args.b.now c.loop-i.i (the_type c.at.result.now) (the_type c.at-in-loop-i.result.now) c.at.ensures c.at-in-loop-i.ensures (differ_type (the_type c.at.result.now) (the_type c.at-in-loop-i.result.now) (sym c.if-not-same.ensures)) h))

pub loop-i-preserved : goal.loop-i-preserved
loop-i-preserved c =
    take_both c.args.a.now c.args.b.now c.loop-i.i (the_type c.at.result.now) (the_type c.at-in-loop-i.result.now) c.loop-i.invariant c.at.ensures c.at-in-loop-i.ensures (same_type-true (the_type c.at.result.now) (the_type c.at-in-loop-i.result.now) (sym c.if-not-same.ensures))
