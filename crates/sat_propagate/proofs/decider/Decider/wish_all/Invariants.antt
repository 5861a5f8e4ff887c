use Rattle.std.proofs.Common.{◌≡◌, take}
use Rattle.sat_propagate.specs.Internal.Decider.{wished_signs, wished, scores}
use Rattle.sat_propagate.proofs.decider.Decider.wish_all.Given as goal

abbrev pub invariant-loop-v : goal.invariant-loop-v
invariant-loop-v l = record {
  gain : l.self.gain ≡ l.fn.self.gain;
  heap : l.self.heap.items ≡ l.fn.self.heap.items;
  signs : wished_signs l.self.standings.items ≡ wished (wished_signs l.fn.self.standings.items) (take l.v l.signs);
  scores : scores l.self.standings.items ≡ scores l.fn.self.standings.items;
}
