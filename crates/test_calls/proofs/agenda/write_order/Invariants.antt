use Rattle.std.proofs.Common.{◌≡◌}
use Rattle.test_calls.proofs.agenda.write_order.Given as goal

abbrev pub invariant-loop-name : goal.invariant-loop-name
invariant-loop-name g l = l.agenda.pushes ≡ l.name-index
