use Rattle.std.proofs.Common.{◌≡◌, ◌≤◌, ◌++◌, ◌-◌, List, ℕ, Some, length, IsTrue}
use Rattle.outside.proofs.reading.read_rest.Given as goal

abbrev pub invariant-loop-count : goal.invariant-loop-count
invariant-loop-count g l =
    let files = g.F.Files in
    record {
      current : IsTrue (files.has_current l.files);
      named : files.goes_by l.files l.name;
      short : length l.bytes ≤ l.limit;
      read : IsTrue (files.seen l.fn.files).tells → (files.seen l.fn.files).contents l.name ≡ Some (l.bytes ++ files.left l.files);
      quiet : (other : List ℕ) → files.faults l.files other ≡ files.faults l.fn.files other;
      same : files.seen l.files ≡ files.seen l.fn.files;
    }

abbrev pub decreases-loop-count : goal.decreases-loop-count
decreases-loop-count g l = l.limit - length l.bytes
