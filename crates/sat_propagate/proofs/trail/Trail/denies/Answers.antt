use Rattle.std.proofs.Common.{ap, ◌∙◌}
use Rattle.sat_base.specs.Literal.{holds, negated}
use Rattle.sat_propagate.specs.Internal.Trail.{TrailState, literals}
use Rattle.sat_propagate.proofs.trail.Trail.denies.Goals as goal

pub returns : goal.returns
returns c =
    c.denies.ensures ∙ c.self.invariant.valued.same (negated c.args.literal) ∙ c.self.invariant.inside.tabled.values (negated c.args.literal)
    ∙ ap (λ (t : TrailState). holds (literals t.steps) (negated c.args.literal)) c.self.view_is
