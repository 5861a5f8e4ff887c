use Rattle.std.proofs.Common.{◌≡◌, ◌≤◌, ◌+◌, length, drop}
use Rattle.search_spec.specs.Heads.{places_to}
use Rattle.prover_state.proofs.cells.Cell.count_variables.Given as goal

-- with those of what is left they are all
abbrev pub invariant-loop-i : goal.invariant-loop-i
invariant-loop-i l = record {
  few : l.count ≤ l.i;
  all : l.count + length (places_to l.self.0.base l.i (drop l.i l.self.0.context)) ≡ length (places_to l.self.0.base 0 l.self.0.context);
}
