use Rattle.std.proofs.Common.{◌-◌, ℕ, List}
use Rattle.finite_models.specs.Internal.Search.{AreAllowed, IsEarlier, PassesAll, lists, rank}
use Rattle.finite_models.proofs.search.search_on.Given as goal

abbrev pub decreases-loop-reach : goal.decreases-loop-reach
decreases-loop-reach l = lists l.domains - rank l.domains l.values

abbrev pub invariant-loop-reach : goal.invariant-loop-reach
invariant-loop-reach l = record {
  allowed : AreAllowed l.domains l.values;
  before : (ws : List ℕ) → AreAllowed l.domains ws → IsEarlier ws l.values → PassesAll l.checks ws → ⊥;
}
