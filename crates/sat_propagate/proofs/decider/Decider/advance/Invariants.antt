use Rattle.std.proofs.Common.{◌≡◌, take}
use Rattle.sat_propagate.specs.Internal.Decider.{wished_signs, scores, with_gains, scores_before, next_gain}
use Rattle.sat_propagate.proofs.decider.Decider.advance.Given as goal

abbrev pub invariant-loop-var : goal.invariant-loop-var
invariant-loop-var l = record {
  gain : l.self.gain ≡ next_gain l.fn.self.gain;
  signs : wished_signs l.self.standings.items ≡ wished_signs l.fn.self.standings.items;
  scores : scores l.self.standings.items ≡ with_gains (scores_before l.fn.self.gain (scores l.fn.self.standings.items)) (take l.var-index l.variables) (next_gain l.fn.self.gain);
}
