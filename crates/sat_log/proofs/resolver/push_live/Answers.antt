use Rattle.std.proofs.Common.{◌++◌, List, ap, sym, take, ◌∙◌}
use Rattle.sat_base.specs.declared.literal.SatLit.{SatLit}
use Rattle.sat_log.proofs.ResolverLaws.{pushed_more, live_more, live_same}
use Rattle.sat_log.specs.Internal.Resolver.{live}
use Rattle.sat_log.proofs.resolver.push_live.Goals as goal
use Rattle.sat_log.proofs.resolver.push_live.Goals.{then-is_live+in_ok-push, else-is_live}

pub loop-p-preserved : goal.loop-p-preserved
loop-p-preserved c =
    let table = c.args.table.now in
    let placed = c.args.placed.now in
    let i = c.loop-p.p-index in
    let clause = λ (r : List SatLit). c.args.clause.now ++ r in
    elim c.if-is_live.branch [
      | then-is_live+in_ok-push w ↦
          w.clause-is
          ∙ pushed_more c.args.clause.now c.loop-p.clause w.push.new.self (live table (take i placed)) _ c.loop-p.invariant w.in_ok-push.ensures.ok
          ∙ ap clause (sym (live_more table placed i _ c.loop-p-test.true (sym c.is_live.ensures ∙ w.if-is_live.true)))
      | else-is_live w ↦
          w.clause-is
          ∙ c.loop-p.invariant
          ∙ ap clause (sym (live_same table placed i _ c.loop-p-test.true (sym c.is_live.ensures ∙ w.if-is_live.false)))
    ]
