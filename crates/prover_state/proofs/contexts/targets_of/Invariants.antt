use Rattle.std.proofs.Common.{◌≡◌, map, take, reverse}
use Rattle.stt_core.specs.SimpleType.{target}
use Rattle.prover_state.proofs.contexts.targets_of.Given as goal

abbrev pub invariant-loop-i : goal.invariant-loop-i
invariant-loop-i l = l.targets.items ≡ map target (take l.i (reverse l.types))
