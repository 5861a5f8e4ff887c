use Rattle.std.proofs.Common.{◌≡◌, ◌++◌}
use Rattle.std.specs.Vec.Iter.{into_iter_items}
use Rattle.thf_include.specs.View.{the_statements}
use Rattle.thf_include.proofs.selection.keep.Given as goal

abbrev pub invariant-loop-placed : goal.invariant-loop-placed
invariant-loop-placed l = record {
  can : goal.iterator-loop-placed.can_next l.placed-iterator;
  finite : goal.iterator-loop-placed.is_finite l.placed-iterator;
  seen : into_iter_items l.initial.placed-iterator ≡ l.yielded ++ into_iter_items l.placed-iterator;
  kept : the_statements l.gathered ≡ the_statements l.fn.gathered ++ the_statements l.yielded;
}
