use Rattle.std.proofs.Common.{◌≡◌, ◌++◌, List, drop}
use Rattle.std.specs.List.{flat_map}
use Rattle.sat_base.specs.declared.literal.SatLit.{SatLit}
use Rattle.prover_state.proofs.clauses.joined.Given as goal

-- with what is left to add it is all
abbrev pub invariant-loop-i : goal.invariant-loop-i
invariant-loop-i l = l.all.items ++ flat_map (λ (a : List SatLit). a) (drop l.i l.lists) ≡ flat_map (λ (a : List SatLit). a) l.lists
