use Rattle.std.proofs.Common.{◌+◌, ◌≤◌, ◌++◌, length}
use Rattle.refute_print.specs.Text.{text_lines}
use Rattle.refute_print.specs.TextView.{the_text}
use Rattle.outside.specs.Lines.{lines_of}
use Rattle.refute_text.proofs.Bodies.{TextSoFar}
use Rattle.refute_text.proofs.text.read_on.Given as goal

abbrev pub invariant-loop-cut : goal.invariant-loop-cut
invariant-loop-cut l = record {
  so_far : TextSoFar (text_lines (the_text l.fn.begun) ++ lines_of l.bytes) l.fn.begun.names_at l.text l.line l.rest;
  room : l.line + length l.rest ≤ l.first + length l.bytes;
}

abbrev pub decreases-loop-cut : goal.decreases-loop-cut
decreases-loop-cut l = length l.rest
