use Rattle.std.proofs.Common.{◌∙◌}
use Rattle.sat_propagate.specs.Internal.Decider.{scores, scores_before, next_gain}
use Rattle.sat_propagate.proofs.DeciderLaws.{gains_on}
use Rattle.sat_propagate.proofs.decider.Decider.advance.Goals as goal

pub loop-var-preserved : goal.loop-var-preserved
loop-var-preserved c =
    let old = c.args.self.now in
    record {
      gain = c.bump.ensures.gain ∙ c.loop-var.invariant.gain;
      signs = c.bump.ensures.signs ∙ c.loop-var.invariant.signs;
      scores =
          c.bump.ensures.scores
          ∙ gains_on (scores_before old.gain (scores old.standings.items)) (scores c.loop-var.self.standings.items) c.args.variables.now c.loop-var.var-index
          (next_gain old.gain) c.loop-var.self.gain _ c.loop-var-test.true c.loop-var.invariant.gain c.loop-var.invariant.scores;
    }
