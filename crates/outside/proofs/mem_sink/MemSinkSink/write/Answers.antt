use Rattle.std.proofs.Common.{rules, arith, inr, refl}
use Rattle.outside.proofs.mem_sink.MemSinkSink.write.Goals.{then-next_fails-via-then-next_fails, then-next_fails-via-else-next_fails+then-count-eq0}
use Rattle.outside.proofs.mem_sink.MemSinkSink.write.Goals as goal

pub returns-then-next_fails-clause-refused : goal.returns-then-next_fails-clause-refused
returns-then-next_fails-clause-refused c =
    rw (← c.self.view_is) (elim c.then-next_fails.branch [ then-next_fails-via-then-next_fails w ↦ search rules | then-next_fails-via-else-next_fails+then-count-eq0 w ↦ (λ _. inr (omega arith), λ _. refl) ])
