use Rattle.std.proofs.Common.{◌≡◌, length}
use Rattle.sat_core.specs.Internal.Learned.{IsRefuting}
use Rattle.sat_core.proofs.analysis.refuted_chain.Given as goal

abbrev pub invariant-loop-place : goal.invariant-loop-place
invariant-loop-place l = record {
  refuting : IsRefuting l.propagator.clauses.items l.propagator.trail l.names l.first l.among l.marks.marked l.steps l.place;
  made : length l.marks.marked ≡ length l.fn.marks.marked;
}
