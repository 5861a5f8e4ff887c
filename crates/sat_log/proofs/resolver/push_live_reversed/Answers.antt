use Rattle.std.proofs.Common.{◌++◌, List, ap, sym, drop, reverse, ◌∙◌}
use Rattle.sat_base.specs.declared.literal.SatLit.{SatLit}
use Rattle.sat_log.proofs.ResolverLaws.{pushed_more, live_reversed_more, live_reversed_same}
use Rattle.sat_log.specs.Internal.Resolver.{live}
use Rattle.sat_log.proofs.resolver.push_live_reversed.Goals as goal

pub loop-i-preserved-in-Continue-1 : goal.loop-i-preserved-in-Continue-1
loop-i-preserved-in-Continue-1 c =
    let table = c.args.table.now in
    let placed = c.args.placed.now in
    let i = c.loop-i.i in
    pushed_more c.args.clause.now c.loop-i.clause c.push.new.self (live table (reverse (drop i placed))) _ c.loop-i.invariant c.in_ok-push.ensures.ok
    ∙ ap (λ (r : List SatLit). c.args.clause.now ++ r) (sym (live_reversed_more table placed i _ c.loop-i-test.true c.loop-i.auto.i (sym c.is_live.ensures ∙ c.if-is_live.true)))

pub loop-i-preserved : goal.loop-i-preserved
loop-i-preserved c =
    let table = c.args.table.now in
    let placed = c.args.placed.now in
    let i = c.loop-i.i in
    c.loop-i.invariant
    ∙ ap (λ (r : List SatLit). c.args.clause.now ++ r) (sym (live_reversed_same table placed i _ c.loop-i-test.true c.loop-i.auto.i (sym c.is_live.ensures ∙ c.if-is_live.false)))
