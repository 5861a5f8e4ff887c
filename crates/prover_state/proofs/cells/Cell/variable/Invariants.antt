use Rattle.std.proofs.Common.{◌≡◌, drop, slice_get}
use Rattle.search_spec.specs.Heads.{places_to}
use Rattle.prover_state.proofs.cells.Cell.variable.Given as goal

-- what is looked for is among the places of what is left
abbrev pub invariant-loop-i : goal.invariant-loop-i
invariant-loop-i l = slice_get (places_to l.self.0.base l.i (drop l.i l.self.0.context)) l.left ≡ slice_get (places_to l.self.0.base 0 l.self.0.context) l.place
