use Rattle.refute_check.proofs.PlaceLaws.{places_more}
use Rattle.refute_check.proofs.numbering.base_places.Goals as goal

pub loop-i-preserved : goal.loop-i-preserved
loop-i-preserved c =
    places_more c.loop-i.places c.note.new.places c.args.bases.now c.loop-i.i c.at.result.now c.at.ensures c.loop-i.invariant c.in_ok-note.ensures
