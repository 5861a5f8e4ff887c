use Rattle.std.proofs.Common.{ap, ◌∙◌}
use Rattle.indexmap.specs.IndexMap.{set_value_at}
use Rattle.mating_rules.proofs.HeadLaws.{on_err, set_value_at-same, place-keeps}
use Rattle.mating_rules.proofs.heads.Heads.add_at.Goals as goal

pub returns-in_err-push-clause-err : goal.returns-in_err-push-clause-err
returns-in_err-push-clause-err c =
    let lits = c.pair_mut-lits.result in
    on_err c.from_residual.result
    (ap (set_value_at c.self.inside.lits.entries c.args.place) c.in_err-push.ensures.err
    ∙ set_value_at-same c.self.inside.lits.entries c.args.place lits.0.now lits.1.now c.pair_mut-lits.ensures.value ∙ c.self.view_is)

pub returns-clause-keeps : goal.returns-clause-keeps
returns-clause-keeps c = λ h at.
    let lits = c.pair_mut-lits.result in
    place-keeps h c.args.lit c.self.inside.lits.entries c.args.self.now c.args.place (lits.0.now, lits.1.now) c.push.new.self c.self.view_is at c.pair_mut-lits.ensures.value c.in_ok-push.ensures.ok
