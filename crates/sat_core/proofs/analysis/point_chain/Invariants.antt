use Rattle.std.proofs.Common.{◌≡◌, length}
use Rattle.sat_core.specs.Internal.Learned.{IsAnalysed}
use Rattle.sat_core.proofs.analysis.point_chain.Given as goal

abbrev pub invariant-loop-place : goal.invariant-loop-place
invariant-loop-place l = record {
  analysed : IsAnalysed l.propagator.clauses.items l.propagator.trail l.names l.conflict l.start l.marks.marked l.steps l.late l.place;
  made : length l.marks.marked ≡ length l.fn.marks.marked;
}
