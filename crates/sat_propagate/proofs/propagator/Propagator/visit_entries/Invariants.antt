use Rattle.std.proofs.Common.{◌≡◌, ◌<◌, ◌-◌, IsTrue, length}
use Rattle.sat_base.specs.Literal.{holds, negated}
use Rattle.sat_propagate.specs.Internal.Trail.{literals}
use Rattle.sat_propagate.specs.Internal.WatchLists.{with_entries}
use Rattle.sat_propagate.specs.Internal.Propagator.{IsPropagator, AreEntriesDone, Grew}
use Rattle.sat_propagate.proofs.propagator.Propagator.visit_entries.Given as goal

-- the propagator is right, and the entries before i are done
abbrev pub invariant-loop-at : goal.invariant-loop-at
invariant-loop-at l = record {
  right : IsPropagator l.self.trail l.self.processed l.self.clauses.items (with_entries l.self.lists l.falsified l.entries.items);
  grew : Grew l.fn.self.trail l.fn.self.clauses.items l.self.trail l.self.clauses.items;
  processed : l.self.processed ≡ l.fn.self.processed;
  falsified : IsTrue (holds (literals l.self.trail.steps) (negated l.falsified));
  made : l.falsified.var.0 < length l.self.trail.phases;
  done : AreEntriesDone l.self.trail l.self.clauses.items l.falsified l.entries.items l.i;
}

abbrev pub decreases-loop-at : goal.decreases-loop-at
decreases-loop-at l = length l.entries.items - l.i
