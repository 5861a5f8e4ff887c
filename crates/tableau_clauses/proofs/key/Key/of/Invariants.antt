use Rattle.std.proofs.Common.{◌≡◌, map, take}
use Rattle.sat_laws.specs.Internal.Packing.{unpacked}
use Rattle.tableau_clauses.proofs.key.Key.of.Given as goal

abbrev pub invariant-loop-literal : goal.invariant-loop-literal
invariant-loop-literal l = map unpacked l.codes.items ≡ take l.literal-index l.clause
