use Rattle.std.proofs.Common.{◌∙◌, ap, arith}
use Rattle.std.proofs.Math.Seq.{map-set_same}
use Rattle.sat_propagate.specs.declared.decider.Standing.{Standing}
use Rattle.sat_propagate.proofs.DeciderLaws.{gain-set}
use Rattle.sat_propagate.proofs.decider.Decider.bump.Goals as goal

pub returns-in-Some-clause-signs : goal.returns-in-Some-clause-signs
returns-in-Some-clause-signs c =
    let old : Standing = c.index_mut-standing.result.now in
    c.rise.ensures.signs
    ∙ map-set_same (λ (s : Standing). s.sign) c.args.self.now.standings.items c.args.var.0 (record { score = c.saturating_add-standing.result; place = old.place; sign = old.sign }) old
    (ap (λ (s : Standing). s.sign) c.index_mut-standing.ensures.value)

pub returns-in_default-clause-signs : goal.returns-in_default-clause-signs
returns-in_default-clause-signs c =
    let old : Standing = c.index_mut-standing.result.now in
    map-set_same (λ (s : Standing). s.sign) c.args.self.now.standings.items c.args.var.0 (record { score = c.saturating_add-standing.result; place = old.place; sign = old.sign }) old
    (ap (λ (s : Standing). s.sign) c.index_mut-standing.ensures.value)

pub returns-in-Some-clause-scores : goal.returns-in-Some-clause-scores
returns-in-Some-clause-scores c =
    let old : Standing = c.index_mut-standing.result.now in
    c.rise.ensures.scores
    ∙ gain-set c.args.self.now.standings.items c.args.var c.args.self.now.gain _ old (record { score = c.saturating_add-standing.result; place = old.place; sign = old.sign })
    (omega (arith, c.if-var-len.true, c.len.ensures)) c.index_mut-standing.ensures.value c.saturating_add-standing.ensures

pub returns-in_default-clause-scores : goal.returns-in_default-clause-scores
returns-in_default-clause-scores c =
    let old : Standing = c.index_mut-standing.result.now in
    gain-set c.args.self.now.standings.items c.args.var c.args.self.now.gain _ old (record { score = c.saturating_add-standing.result; place = old.place; sign = old.sign })
    (omega (arith, c.if-var-len.true, c.len.ensures)) c.index_mut-standing.ensures.value c.saturating_add-standing.ensures
