use Rattle.std.proofs.Common.{map, ◌∙◌}
use Rattle.std.proofs.lemmas.Option.{slice_get-map}
use Rattle.refute_check.proofs.PlaceLaws.{places_more}
use Rattle.refute_check.proofs.numbering.const_places.Goals as goal

pub loop-i-preserved : goal.loop-i-preserved
loop-i-preserved c =
    places_more c.loop-i.places c.note.new.places (map (λ d. d.name) c.args.consts.now) c.loop-i.i c.name_at.result.now (slice_get-map (λ d. d.name) c.args.consts.now c.loop-i.i ∙ c.name_at.ensures) c.loop-i.invariant c.in_ok-note.ensures
