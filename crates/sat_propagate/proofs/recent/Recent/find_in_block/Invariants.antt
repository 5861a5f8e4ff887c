use Rattle.sat_propagate.specs.Internal.Recent.{AppendsCovered}
use Rattle.sat_propagate.proofs.RecentLaws.{FoundBelow}
use Rattle.sat_propagate.proofs.recent.Recent.find_in_block.Given as goal

abbrev pub invariant-loop-i : goal.invariant-loop-i
invariant-loop-i l =
    AppendsCovered l.self.blocks.items l.self.clauses.items l.bits l.fn.found.items l.found.items
    × FoundBelow l.self.blocks.items l.self.clauses.items l.bits l.at l.i l.found.items
