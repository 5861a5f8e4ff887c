use Rattle.stt_core.proofs.ListLaws.{map_more}
use Rattle.rebuild_spec.specs.Stands.{place_in}
use Rattle.tableau_rebuild.proofs.line.places_of.Goals as goal

pub loop-i-preserved : goal.loop-i-preserved
loop-i-preserved c =
    map_more (place_in c.args.branch.now) c.args.literals.now c.loop-i.i c.at.result c.loop-i.places.items c.push.new.self.items c.position.result c.at.ensures c.loop-i.invariant c.position.ensures c.in_ok-push.ensures.items
