use Rattle.std.proofs.Common.{◌≡◌, map, take}
use Rattle.sat_laws.specs.Internal.Packing.{unpacked}
use Rattle.tableau_clauses.proofs.key.clause_of.Given as goal

abbrev pub invariant-loop-code : goal.invariant-loop-code
invariant-loop-code l = l.clause ≡ map unpacked (take l.code-index l.codes)
