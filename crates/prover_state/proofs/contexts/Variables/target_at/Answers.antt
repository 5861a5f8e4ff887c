use Rattle.std.proofs.Common.{◌≡◌, ◌<◌, length, reverse, slice_get, Some, ap, subst, arith}
use Rattle.std.proofs.lemmas.List.{length-reverse}
use Rattle.stt_core.specs.SimpleType.{SimpleType, target}
use Rattle.prover_state.proofs.VariableLaws.{target-there}
use Rattle.prover_state.proofs.contexts.Variables.target_at.Goals as goal

pub returns : goal.returns
returns c =
    let within : c.args.i < length (reverse c.self.inside.types) = omega (arith, c.requires, ap length c.self.view_is, length-reverse c.self.inside.types) in
    subst (λ ts. (a : SimpleType) × ((slice_get (reverse ts) c.args.i ≡ Some a) × (c.index.result.now ≡ target a))) c.self.view_is
    (target-there (reverse c.self.inside.types) c.args.i c.index.result.now c.self.inside.targets.items within c.self.invariant c.index.ensures)
