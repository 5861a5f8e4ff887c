use Rattle.std.proofs.Common.{suc, ◌-◌, length}
use Rattle.refute_share.specs.Internal.Room.{HasNoMore}
use Rattle.refute_share.proofs.pool.room_for.Given as goal

abbrev pub invariant-loop-made : goal.invariant-loop-made
invariant-loop-made l = HasNoMore l.fn.made.items l.made.items

abbrev pub decreases-loop-made : goal.decreases-loop-made
decreases-loop-made l = suc l.place - length l.made.items
