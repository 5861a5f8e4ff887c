use Rattle.std.proofs.Common.{◌≡◌, ◌+◌, ◌≤◌, length}
use Rattle.std.specs.Vec.Iter.{into_iter_items, into_iter_len}
use Rattle.thf_include.specs.View.{the_statements}
use Rattle.type_check.specs.Internal.ReadingView.{the_reading}
use Rattle.type_check.specs.Statements.{read_statements}
use Rattle.type_check.proofs.problem.read_all.Given as goal

abbrev pub invariant-loop-placed : goal.invariant-loop-placed
invariant-loop-placed l =
    (read_statements (the_reading l.reading) (the_statements (into_iter_items l.placed-iterator)) ≡ read_statements (the_reading l.fn.reading) (the_statements l.fn.gathered))
    × (length l.reading.declared.bases + length l.reading.declared.consts + into_iter_len l.placed-iterator ≤ length l.fn.reading.declared.bases + length l.fn.reading.declared.consts + length l.fn.gathered)
    × (into_iter_len l.placed-iterator ≡ length (into_iter_items l.placed-iterator))
