use Rattle.std.proofs.Common.{◌≤◌, ◌<◌, ℕ}
use Rattle.finite_models.specs.Internal.Search.{IsAllowed}
use Rattle.finite_models.proofs.search.next_allowed.Given as goal

abbrev pub invariant-loop-v : goal.invariant-loop-v
invariant-loop-v l = (v : ℕ) → l.from ≤ v → v < l.v → IsAllowed l.allowed v → ⊥
