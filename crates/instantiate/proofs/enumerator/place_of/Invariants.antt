use Rattle.std.proofs.Common.{◌≡◌, ◌+◌, drop}
use Rattle.stt_core.specs.View.{the_type}
use Rattle.instantiate.specs.Internal.Groups.{group_place}
use Rattle.instantiate.proofs.enumerator.place_of.Given as goal

-- the place among the lists that are left
abbrev pub invariant-loop-i : goal.invariant-loop-i
invariant-loop-i l = group_place (the_type l.ty) (drop l.i l.lists) + l.i ≡ group_place (the_type l.ty) l.lists
