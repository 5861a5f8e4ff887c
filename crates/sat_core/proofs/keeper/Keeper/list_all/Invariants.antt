use Rattle.std.proofs.Common.{◌≡◌, ◌-◌, length}
use Rattle.sat_core.specs.Internal.Keeper.{IsKeeper}
use Rattle.sat_core.proofs.keeper.Keeper.list_all.Given as goal

abbrev pub invariant-loop-self : goal.invariant-loop-self
invariant-loop-self l = record {
  keeper : IsKeeper l.self.values.items l.self.uses l.self.listed l.self.kept l.clauses;
  values : l.self.values.items ≡ l.fn.self.values.items;
  kept : l.self.kept ≡ l.fn.self.kept;
}

abbrev pub decreases-loop-self : goal.decreases-loop-self
decreases-loop-self l = length l.clauses - l.self.listed
