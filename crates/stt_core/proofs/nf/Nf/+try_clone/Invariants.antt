use Rattle.std.proofs.Common.{◌≡◌, take}
use Rattle.stt_core.specs.Lambda.{node_count}
use Rattle.stt_core.proofs.nf.Nf.+try_clone.Given as goal

abbrev pub decreases-try_clone : goal.decreases-try_clone
decreases-try_clone l = node_count l.self.now

abbrev pub invariant-loop-i : goal.invariant-loop-i
invariant-loop-i l = l.args ≡ take l.i l.self-inside.args
