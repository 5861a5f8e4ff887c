use Rattle.std.proofs.Common.{◌≡◌, length}
use Rattle.sat_core.specs.Internal.Learned.{IsShortening}
use Rattle.sat_core.proofs.shorten.learned_chain.Given as goal

abbrev pub invariant-loop-i : goal.invariant-loop-i
invariant-loop-i l = record {
  shortening : IsShortening l.propagator.clauses.items l.propagator.trail l.names l.marks.marked l.start l.chain;
  made : length l.marks.marked ≡ length l.fn.marks.marked;
}
