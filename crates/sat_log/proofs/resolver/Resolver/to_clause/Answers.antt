use Rattle.std.proofs.Common.{◌∙◌}
use Rattle.sat_log.proofs.ResolverLaws.{collected}
use Rattle.sat_log.proofs.resolver.Resolver.to_clause.Goals as goal

pub returns : goal.returns
returns c =
    let inside = c.self.inside in
    collected inside.table inside.front.items inside.back.items c.deref.result.now c.deref-2.result.now c.new-clause.result c.push_live_reversed.new.clause c.push_live.new.clause
    c.deref.ensures.value c.deref-2.ensures.value c.new-clause.ensures c.in_ok-push_live_reversed.ensures c.in_ok-push_live.ensures
    ∙ c.self.view_is
