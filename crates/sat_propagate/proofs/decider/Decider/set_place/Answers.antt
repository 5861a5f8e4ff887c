use Rattle.std.proofs.Common.{ap}
use Rattle.std.proofs.Math.Seq.{map-set_same}
use Rattle.sat_propagate.specs.declared.decider.Standing.{Standing}
use Rattle.sat_propagate.proofs.decider.Decider.set_place.Goals as goal

pub returns-then-var-len-clause-signs : goal.returns-then-var-len-clause-signs
returns-then-var-len-clause-signs c =
    let old : Standing = c.index_mut-standing.result.now in
    map-set_same (λ (s : Standing). s.sign) c.args.self.now.standings.items c.args.var.0 (record { score = old.score; place = c.args.place; sign = old.sign }) old
    (ap (λ (s : Standing). s.sign) c.index_mut-standing.ensures.value)

pub returns-then-var-len-clause-scores : goal.returns-then-var-len-clause-scores
returns-then-var-len-clause-scores c =
    let old : Standing = c.index_mut-standing.result.now in
    map-set_same (λ (s : Standing). s.score) c.args.self.now.standings.items c.args.var.0 (record { score = old.score; place = c.args.place; sign = old.sign }) old
    (ap (λ (s : Standing). s.score) c.index_mut-standing.ensures.value)
