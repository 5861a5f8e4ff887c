use Rattle.std.proofs.Common.{ℕ, List, [], ◌∷◌, ◌++◌, ◌∙◌, ap₂, refl, take_all, arith}
use Rattle.stt_core.specs.SimpleType.{SimpleType}
use Rattle.stt_core.specs.TypedName.{TypedName}
use Rattle.stt_core.specs.ConstView.{typed_name}
use Rattle.stt_core.proofs.ListLaws.{copy_more}
use Rattle.stt_core.proofs.signature.Consts.try_clone.Goals as goal

abbrev named : List ℕ → SimpleType → TypedName
named n a = record { name = n; type = a }

pub loop-i-preserved : goal.loop-i-preserved
loop-i-preserved c =
    copy_more c.args.self.now c.loop-i.i (typed_name c.at-constant.result.now) c.loop-i.consts c.push.new.self (typed_name c.at-constant.result.now) c.at-constant.ensures c.loop-i.invariant refl
    (c.in_ok-push.ensures.ok ∙ ap₂ (λ n a. c.loop-i.consts ++ named n a ∷ []) c.as_slice.ensures.value c.in_ok-ty.ensures)

pub returns : goal.returns
returns c = c.loop-i.invariant ∙ take_all c.loop-i.i c.args.self.now (omega (arith, c.len-i-end.ensures))
