use Rattle.std.proofs.Common.{◌<◌, ◌/◌, ℕ}
use Rattle.std.specs.List.{Contains}
use Rattle.sat_propagate.specs.Internal.Recent.{AppendsCovered, HasBits}
use Rattle.sat_propagate.proofs.recent.Recent.find_covered.Given as goal

abbrev pub invariant-loop-at : goal.invariant-loop-at
invariant-loop-at l =
    AppendsCovered l.fn.self.blocks.items l.fn.self.clauses.items l.bits l.fn.found.items l.found.items
    × ((n : ℕ) (h : HasBits l.fn.self.blocks.items l.fn.self.clauses.items l.bits n) → h.place / 8 < l.at → Contains l.found.items n)
