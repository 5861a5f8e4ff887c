use Rattle.std.proofs.Common.{sym, ◌∙◌}
use Rattle.stt_core.specs.SimpleType.{same_type}
use Rattle.stt_core.specs.View.{the_type}
use Rattle.prover_growth.proofs.OpeningLaws.{any-passed, any-found}
use Rattle.prover_growth.proofs.opening.has_type.Goals as goal

pub loop-i-preserved : goal.loop-i-preserved
loop-i-preserved c =
    any-passed (same_type (the_type c.args.ty.now)) c.args.types.now c.loop-i.i (the_type c.at.result.now) c.at.ensures _ c.loop-i.invariant (sym c.same.ensures ∙ c.if-same.false)

pub returns-then-same : goal.returns-then-same
returns-then-same c =
    any-found (same_type (the_type c.args.ty.now)) c.args.types.now c.loop-i.i (the_type c.at.result.now) c.at.ensures _ c.loop-i.invariant (sym c.same.ensures ∙ c.if-same.true)
