use Rattle.std.proofs.Common.{ap, ◌∙◌}
use Rattle.sat_base.specs.Literal.{holds}
use Rattle.sat_propagate.specs.Internal.Trail.{TrailState, literals}
use Rattle.sat_propagate.proofs.trail.Trail.affirms.Goals as goal

pub returns : goal.returns
returns c =
    c.get.ensures ∙ c.self.invariant.valued.same c.args.literal ∙ c.self.invariant.inside.tabled.values c.args.literal
    ∙ ap (λ (t : TrailState). holds (literals t.steps) c.args.literal) c.self.view_is
