use Rattle.std.proofs.Common.{◌∙◌, ◌/◌, refl, ap, arith}
use Rattle.std.proofs.Math.Seq.{map-set_same}
use Rattle.sat_propagate.specs.declared.decider.Standing.{Standing}
use Rattle.sat_propagate.proofs.DeciderLaws.{scaled-set, scaled-all}
use Rattle.sat_propagate.proofs.decider.Decider.rescale.Goals as goal

pub loop-v-preserved : goal.loop-v-preserved
loop-v-preserved c =
    let old : Standing = c.index_mut-standing.result.now in
    record {
      gain = c.loop-v.invariant.gain;
      signs =
          map-set_same (λ (s : Standing). s.sign) c.loop-v.self.standings.items c.loop-v.v (record { score = old.score / 1099511627776; place = old.place; sign = old.sign }) old
          (ap (λ (s : Standing). s.sign) c.index_mut-standing.ensures.value)
          ∙ c.loop-v.invariant.signs;
      scores =
          scaled-set c.args.self.now.standings.items c.loop-v.self.standings.items c.loop-v.v _ old (record { score = old.score / 1099511627776; place = old.place; sign = old.sign })
          (omega (arith, c.loop-v-test.true, c.len-v-end.ensures)) c.loop-v.invariant.scores c.index_mut-standing.ensures.value refl;
    }

pub loop-place-init : goal.loop-place-init
loop-place-init c = record {
  gain = c.loop-v.invariant.gain;
  signs = c.loop-v.invariant.signs;
  scores = scaled-all c.args.self.now.standings.items c.loop-v.self.standings.items c.loop-v.v c.loop-v.invariant.scores (omega (arith, c.loop-v-test.false, c.len-v-end.ensures));
}
