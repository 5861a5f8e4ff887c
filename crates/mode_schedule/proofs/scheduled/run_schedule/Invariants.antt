use Rattle.std.proofs.Common.{◌≡◌, map, take}
use Rattle.mode_schedule.specs.declared.Block.{Block}
use Rattle.mode_schedule.specs.declared.mode_weigher.ModeWeigher.{ModeWeigher}
use Rattle.mode_schedule.proofs.scheduled.run_schedule.Given as goal

abbrev pub invariant-loop-block : goal.invariant-loop-block
invariant-loop-block l = l.weighers.items ≡ map (λ (b : Block). let w : ModeWeigher = record { mode = b.mode } in w) (take l.block-index l.blocks)
