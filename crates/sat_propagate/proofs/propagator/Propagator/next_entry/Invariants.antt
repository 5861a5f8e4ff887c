use Rattle.sat_base.specs.declared.literal.SatLit.{SatLit}
use Rattle.sat_propagate.specs.Internal.Propagator.{AreEntriesDone}
use Rattle.sat_propagate.proofs.propagator.Propagator.next_entry.Given as goal

-- the entries up to `at` are done if the first ones are
abbrev pub invariant-loop-at : goal.invariant-loop-at
invariant-loop-at l =
    (m : SatLit) → AreEntriesDone l.self.trail l.self.clauses.items m l.entries l.fn.from → AreEntriesDone l.self.trail l.self.clauses.items m l.entries l.at
