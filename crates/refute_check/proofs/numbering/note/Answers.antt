use Rattle.std.proofs.Common.{sym, ◌∙◌}
use Rattle.refute_check.specs.Internal.Places.{noted}
use Rattle.refute_check.proofs.PlaceLaws.{noted-new, none_is}
use Rattle.refute_check.proofs.numbering.note.Goals as goal

pub returns-in_ok-insert : goal.returns-in_ok-insert
returns-in_ok-insert c =
    noted-new c.args.places.now c.insert.new.self c.args.name c.args.place c.in_ok-insert.ensures.updates (none_is (noted c.args.places.now c.args.name.now) (sym c.contains_key.ensures ∙ c.if-not-contains_key.true))
