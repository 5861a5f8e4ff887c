use Rattle.std.proofs.Common.{◌≡◌, map, take, length}
use Rattle.mode_schedule.specs.declared.Block.{Block}
use Rattle.mode_schedule.specs.Internal.Standing.{first_entries, AreNone}
use Rattle.mode_schedule.proofs.schedule.Schedule.new.Given as goal

abbrev pub invariant-loop-block : goal.invariant-loop-block
invariant-loop-block g l =
    record {
      entries : l.turns.entries ≡ first_entries 0 (map (λ (b : Block). b.slice) (take l.block-index l.blocks));
      pushes : l.turns.pushes ≡ l.block-index;
      number : l.number ≡ l.block-index;
      places : length l.runs.items ≡ l.block-index;
      none : AreNone l.runs.items;
    }
