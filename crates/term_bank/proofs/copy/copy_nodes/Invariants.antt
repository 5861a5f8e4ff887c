use Rattle.std.proofs.Common.{◌≡◌, map, take}
use Rattle.term_bank.specs.Internal.Copied.{shown}
use Rattle.term_bank.proofs.copy.copy_nodes.Given as goal

abbrev pub invariant-loop-i : goal.invariant-loop-i
invariant-loop-i l = map shown l.copy.entries ≡ take l.i (map shown l.initial.nodes.entries)
