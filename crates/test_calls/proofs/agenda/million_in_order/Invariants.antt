use Rattle.std.proofs.Common.{◌≡◌}
use Rattle.test_calls.proofs.agenda.million_in_order.Given as goal

abbrev pub invariant-loop-k : goal.invariant-loop-k
invariant-loop-k g l = l.agenda.pushes ≡ l.k
