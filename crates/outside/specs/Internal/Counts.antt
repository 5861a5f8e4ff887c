-- Files in memory with their counts of faults.
use Rattle.std.specs.Prelude.{ℕ, List, slice_index, slice_set}
use Rattle.outside.specs.Causes.{next_count}

-- files beside the count of faults of each and then that of all other names
pub record FilesAndCounts : Type 0 where
  pub files : List (List ℕ × List ℕ)
  pub counts : List ℕ

-- the counts after one more fault at a place
abbrev pub raised_at : List ℕ → ℕ → List ℕ
raised_at counts place = slice_set counts place (next_count (slice_index counts place))
