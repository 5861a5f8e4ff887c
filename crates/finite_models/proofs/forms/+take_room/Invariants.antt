use Rattle.finite_models.proofs.forms.+take_room.Given as goal

abbrev pub decreases-take_room : goal.decreases-take_room
decreases-take_room l = l.id
