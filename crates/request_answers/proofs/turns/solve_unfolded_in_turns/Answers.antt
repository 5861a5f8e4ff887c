use Rattle.std.proofs.Common.{◌<◌, ◌≤◌}
use Rattle.std.proofs.lemmas.List.Elements.{All-weaker}
use Rattle.mode_schedule.specs.declared.Block.{Block}
use Rattle.mode_schedule.specs.Grammar.{greatest_slice}
use Rattle.request_answers.proofs.turns.solve_unfolded_in_turns.Goals as goal

pub run_schedule-requires-clause-slices : goal.run_schedule-requires-clause-slices
run_schedule-requires-clause-slices c = All-weaker (λ (b : Block). (0 < b.slice) × (b.slice ≤ greatest_slice)) (λ (b : Block). 0 < b.slice) (λ b h. h.0) c.args.blocks.now c.requires.slices
