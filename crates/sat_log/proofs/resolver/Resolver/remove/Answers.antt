use Rattle.std.proofs.Common.{ap, ◌∙◌}
use Rattle.sat_log.specs.Resolution.{without_literal}
use Rattle.sat_log.specs.Internal.Resolver.{placed_in_order}
use Rattle.sat_log.proofs.ResolverLaws.{removed}
use Rattle.sat_log.proofs.resolver.Resolver.remove.Goals as goal

pub invariant_of-self : goal.invariant_of-self
invariant_of-self c =
    let inside = c.self.inside in
    (removed (placed_in_order inside.front.items inside.back.items) inside.table c.forget.new.self c.args.literal c.self.invariant c.forget.ensures).0

pub returns : goal.returns
returns c =
    let inside = c.self.inside in
    (removed (placed_in_order inside.front.items inside.back.items) inside.table c.forget.new.self c.args.literal c.self.invariant c.forget.ensures).1
    ∙ ap (without_literal c.args.literal) c.self.view_is
