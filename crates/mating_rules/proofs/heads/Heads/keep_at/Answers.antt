use Rattle.std.proofs.Common.{not, ap, ◌∙◌}
use Rattle.indexmap.specs.IndexMap.{set_value_at}
use Rattle.mating_rules.proofs.HeadLaws.{on_err, set_value_at-same, kept-place, place-keeps}
use Rattle.mating_rules.proofs.heads.Heads.keep_at.Goals as goal

pub returns-in_err-partners-clause-err : goal.returns-in_err-partners-clause-err
returns-in_err-partners-clause-err c =
    let lits = c.pair_mut-lits.result in
    on_err c.from_residual.result (set_value_at-same c.self.inside.lits.entries c.args.place lits.0.now lits.1.now c.pair_mut-lits.ensures.value ∙ c.self.view_is)

pub returns-in_err-push-clause-err : goal.returns-in_err-push-clause-err
returns-in_err-push-clause-err c =
    let lits = c.pair_mut-lits.result in
    on_err c.from_residual-in_err-push.result
    (ap (set_value_at c.self.inside.lits.entries c.args.place) c.in_err-push.ensures.err
    ∙ set_value_at-same c.self.inside.lits.entries c.args.place lits.0.now lits.1.now c.pair_mut-lits.ensures.value ∙ c.self.view_is)

pub returns-clause-partners : goal.returns-clause-partners
returns-clause-partners c = λ h at.
    let lits = c.pair_mut-lits.result in
    c.in_ok-partners.ensures ∙ c.of_sign.ensures
    ∙ kept-place h (not c.args.lit.positive) c.self.inside.lits.entries c.args.self.now c.args.place (lits.0.now, lits.1.now) c.self.view_is at c.pair_mut-lits.ensures.value

pub returns-clause-keeps : goal.returns-clause-keeps
returns-clause-keeps c = λ h at.
    let lits = c.pair_mut-lits.result in
    place-keeps h c.args.lit c.self.inside.lits.entries c.args.self.now c.args.place (lits.0.now, lits.1.now) c.push.new.self c.self.view_is at c.pair_mut-lits.ensures.value c.in_ok-push.ensures.ok
