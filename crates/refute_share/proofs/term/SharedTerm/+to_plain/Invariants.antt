use Rattle.std.proofs.Common.{◌≡◌, take}
use Rattle.stt_core.specs.Lambda.{node_count}
use Rattle.refute_share.proofs.term.SharedTerm.+to_plain.Given as goal

abbrev pub decreases-to_plain : goal.decreases-to_plain
decreases-to_plain l = node_count l.self.now

abbrev pub invariant-loop-i : goal.invariant-loop-i
invariant-loop-i l = l.args ≡ take l.i l.self-inside.args
