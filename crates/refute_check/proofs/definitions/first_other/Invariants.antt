use Rattle.std.proofs.Common.{◌≡◌, map, take}
use Rattle.refute_print.specs.Named.{names_of, name_numbered}
use Rattle.refute_check.proofs.definitions.first_other.Given as goal

abbrev pub invariant-loop-i : goal.invariant-loop-i
invariant-loop-i l = take l.i l.names ≡ take l.i (map (name_numbered (names_of l.sig.bases l.sig.consts).constants) l.taken)
