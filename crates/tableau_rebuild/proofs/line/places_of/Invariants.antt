use Rattle.std.proofs.Common.{◌≡◌, map, take}
use Rattle.rebuild_spec.specs.Stands.{place_in}
use Rattle.tableau_rebuild.proofs.line.places_of.Given as goal

abbrev pub invariant-loop-i : goal.invariant-loop-i
invariant-loop-i l = l.places.items ≡ map (place_in l.branch) (take l.i l.literals)
