use Rattle.std.proofs.Common.{◌≡◌, ◌≤◌, drop}
use Rattle.tableau_clauses.specs.Internal.Spans.{piece_of}
use Rattle.tableau_clauses.proofs.instances.lists_behind.Given as goal

abbrev pub invariant-loop-i : goal.invariant-loop-i
invariant-loop-i l = (l.found ≡ drop 1 (piece_of l.lists l.start l.i)) × (1 ≤ l.i)
