use Rattle.std.proofs.Common.{take, map}
use Rattle.refute_check.specs.Internal.Places.{MapsToPlaces}
use Rattle.refute_check.proofs.numbering.const_places.Given as goal

-- the places of the names so far
abbrev pub invariant-loop-i : goal.invariant-loop-i
invariant-loop-i l = MapsToPlaces l.places (take l.i (map (λ c. c.name) l.consts))
