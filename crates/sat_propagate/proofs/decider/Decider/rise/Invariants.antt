use Rattle.std.proofs.Common.{◌≡◌, length}
use Rattle.sat_propagate.specs.Internal.Decider.{wished_signs, scores}
use Rattle.sat_propagate.proofs.decider.Decider.rise.Given as goal

abbrev pub invariant-loop : goal.invariant-loop
invariant-loop l = record {
  same_length : length l.self.heap.items ≡ length l.fn.self.heap.items;
  gain : l.self.gain ≡ l.fn.self.gain;
  signs : wished_signs l.self.standings.items ≡ wished_signs l.fn.self.standings.items;
  scores : scores l.self.standings.items ≡ scores l.fn.self.standings.items;
}
