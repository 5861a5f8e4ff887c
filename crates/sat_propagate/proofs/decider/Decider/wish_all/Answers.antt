use Rattle.std.proofs.Common.{◌∙◌, ◌<◌, length, refl, sym, arith}
use Rattle.sat_propagate.specs.Internal.Decider.{wished_signs}
use Rattle.sat_propagate.proofs.DeciderLaws.{wished-none, wished_on}
use Rattle.sat_propagate.proofs.decider.Decider.wish_all.Goals as goal

pub loop-v-init : goal.loop-v-init
loop-v-init c = record { gain = refl; heap = refl; signs = sym (wished-none (wished_signs c.args.self.now.standings.items)); scores = refl }

pub loop-v-preserved : goal.loop-v-preserved
loop-v-preserved c =
    let within : c.loop-v.v < length c.args.signs.now = omega (arith, c.loop-v-test.true) in
    record {
      gain = c.wish.ensures.gain ∙ c.loop-v.invariant.gain;
      heap = c.wish.ensures.heap ∙ c.loop-v.invariant.heap;
      signs = wished_on (wished_signs c.args.self.now.standings.items) c.args.signs.now (wished_signs c.loop-v.self.standings.items) (wished_signs c.wish.new.self.standings.items)
          c.loop-v.v _ within c.loop-v.invariant.signs c.wish.ensures.signs;
      scores = c.wish.ensures.scores ∙ c.loop-v.invariant.scores;
    }
