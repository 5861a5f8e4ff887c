use Rattle.std.proofs.Common.{ap}
use Rattle.std.proofs.Math.Seq.{map-set_same}
use Rattle.std.proofs.lemmas.List.{map-set}
use Rattle.sat_propagate.specs.declared.decider.Standing.{Standing}
use Rattle.sat_propagate.proofs.decider.Decider.wish.Goals as goal

pub returns-then-var-len-clause-signs : goal.returns-then-var-len-clause-signs
returns-then-var-len-clause-signs c =
    let old : Standing = c.index_mut-standing.result.now in
    map-set (λ (s : Standing). s.sign) c.args.self.now.standings.items c.args.var.0 (record { score = old.score; place = old.place; sign = c.args.sign })

pub returns-then-var-len-clause-scores : goal.returns-then-var-len-clause-scores
returns-then-var-len-clause-scores c =
    let old : Standing = c.index_mut-standing.result.now in
    map-set_same (λ (s : Standing). s.score) c.args.self.now.standings.items c.args.var.0 (record { score = old.score; place = old.place; sign = c.args.sign }) old
    (ap (λ (s : Standing). s.score) c.index_mut-standing.ensures.value)
