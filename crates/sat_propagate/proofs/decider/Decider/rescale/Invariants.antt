use Rattle.std.proofs.Common.{◌≡◌}
use Rattle.sat_propagate.specs.Internal.Decider.{wished_signs, scores, scaled_down}
use Rattle.sat_propagate.proofs.DeciderLaws.{scaled_first}
use Rattle.sat_propagate.proofs.decider.Decider.rescale.Given as goal

abbrev pub invariant-loop-v : goal.invariant-loop-v
invariant-loop-v l = record {
  gain : l.self.gain ≡ 65536;
  signs : wished_signs l.self.standings.items ≡ wished_signs l.fn.self.standings.items;
  scores : scores l.self.standings.items ≡ scaled_first l.v (scores l.fn.self.standings.items);
}

abbrev pub invariant-loop-place : goal.invariant-loop-place
invariant-loop-place l = record {
  gain : l.self.gain ≡ 65536;
  signs : wished_signs l.self.standings.items ≡ wished_signs l.fn.self.standings.items;
  scores : scores l.self.standings.items ≡ scaled_down (scores l.fn.self.standings.items);
}
