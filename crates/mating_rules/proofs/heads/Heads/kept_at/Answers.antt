use Rattle.std.proofs.Common.{sym, ◌∙◌}
use Rattle.mating_rules.proofs.HeadLaws.{kept-place}
use Rattle.mating_rules.proofs.heads.Heads.kept_at.Goals as goal

pub returns : goal.returns
returns c = λ h at.
    c.of_sign.ensures
    ∙ kept-place h c.args.positive c.self.inside.lits.entries c.args.self.now c.args.place (c.in-Some.field-0-0.now, c.in-Some.lits.now) c.self.view_is at (sym c.in-Some.ensures.entry)
