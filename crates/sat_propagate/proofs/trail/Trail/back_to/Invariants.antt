use Rattle.std.proofs.Common.{◌≡◌}
use Rattle.sat_propagate.specs.Internal.Trail.{AreValues}
use Rattle.sat_propagate.proofs.TableLaws.{IsUndone}
use Rattle.sat_propagate.proofs.trail.Trail.back_to.Given as goal

-- the steps from the start up to i are taken out of the table
abbrev pub invariant-loop-i : goal.invariant-loop-i
invariant-loop-i l = record {
  valued : AreValues l.self-inside.values l.self-inside.cells.items;
  undone : IsUndone l.initial.self-inside.cells.items l.self-inside.cells.items l.initial.self-inside.steps.items l.start l.i;
  steps : l.self-inside.steps.items ≡ l.initial.self-inside.steps.items;
  starts : l.self-inside.starts.items ≡ l.initial.self-inside.starts.items;
}
