use Rattle.std.proofs.Common.{◌≡◌, ◌≤◌, ◌+◌, List, ◌∷◌, length}
use Rattle.sat_base.specs.declared.literal.Var.{Var}
use Rattle.sat_propagate.specs.Internal.Decider.{wished_signs, scores, IsOpenVariable}
use Rattle.sat_propagate.proofs.decider.Decider.next.Given as goal

abbrev pub invariant-loop : goal.invariant-loop
invariant-loop l = record {
  few : length l.self.heap.items + l.counter ≤ length l.fn.self.heap.items;
  first : (v : Var) (rest : List Var) → l.fn.self.heap.items ≡ v ∷ rest → IsOpenVariable l.trail v → l.self.heap.items ≡ v ∷ rest;
  gain : l.self.gain ≡ l.fn.self.gain;
  signs : wished_signs l.self.standings.items ≡ wished_signs l.fn.self.standings.items;
  scores : scores l.self.standings.items ≡ scores l.fn.self.standings.items;
}
