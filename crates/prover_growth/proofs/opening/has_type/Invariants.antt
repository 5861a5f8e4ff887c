use Rattle.std.proofs.Common.{◌≡◌, drop}
use Rattle.std.specs.List.{list_any}
use Rattle.stt_core.specs.SimpleType.{same_type}
use Rattle.stt_core.specs.View.{the_type}
use Rattle.prover_growth.proofs.opening.has_type.Given as goal

-- what is left tells
abbrev pub invariant-loop-i : goal.invariant-loop-i
invariant-loop-i l = list_any (same_type (the_type l.ty)) (drop l.i l.types) ≡ list_any (same_type (the_type l.ty)) l.types
