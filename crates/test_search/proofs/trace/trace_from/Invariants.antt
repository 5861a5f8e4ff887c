use Rattle.std.proofs.Common.{◌≡◌, false}
use Rattle.prover_search.specs.Internal.Running.{IsUnderWay}
use Rattle.test_search.proofs.trace.trace_from.Given as goal

abbrev pub invariant-loop-i : goal.invariant-loop-i
invariant-loop-i g l = l.search.is_refused ≡ false → IsUnderWay l.search.core.tables l.search.core.plan l.search.mode
