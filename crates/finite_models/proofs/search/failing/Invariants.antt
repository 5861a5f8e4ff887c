use Rattle.std.proofs.Common.{◌≡◌, ◌<◌, ℕ, [], slice_get, Some}
use Rattle.finite_models.specs.Internal.Worth.{worth}
use Rattle.finite_models.specs.declared.search.Check.{Check}
use Rattle.finite_models.proofs.search.failing.Given as goal

abbrev pub invariant-loop-i : goal.invariant-loop-i
invariant-loop-i l = (k : ℕ) (c : Check) → k < l.i → slice_get l.checks k ≡ Some c → worth c.expr l.values [] ≡ c.wanted
