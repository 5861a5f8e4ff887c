use Rattle.std.proofs.Common.{◌≡◌, take}
use Rattle.stt_core.proofs.signature.Names.try_clone.Given as goal

abbrev pub invariant-loop-i : goal.invariant-loop-i
invariant-loop-i l = l.names ≡ take l.i l.self
