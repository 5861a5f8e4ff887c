-- What contracts see of watch lists.
use Rattle.std.specs.Prelude.{◌≡◌, ℕ, IsTrue, List, [], Some, slice_get, slice_index_or, slice_set}
use Rattle.sat_base.specs.declared.literal.SatLit.{SatLit}
use Rattle.sat_base.specs.Literal.{holds}
use Rattle.sat_laws.specs.Internal.Packing.{packed}
use Rattle.sat_propagate.specs.declared.watch_lists.Watch.{Watch}

-- a list of entries for each literal, by the literal's number
abbrev pub WatchTable : Type 0
WatchTable = List (List Watch)

-- the entries of a literal
abbrev pub watchers : WatchTable → SatLit → List Watch
watchers lists l = slice_index_or lists (packed l) []

-- the lists with these entries for a literal
abbrev pub with_entries : WatchTable → SatLit → List Watch → WatchTable
with_entries lists l entries = slice_set lists (packed l) entries

-- a list of entries names a clause, with a blocker that is in it
pub record NamesWatches (entries : List Watch) (n : ℕ) (clause : List SatLit) : Type 0 where
  pub at : ℕ
  pub entry : Watch
  pub there : slice_get entries at ≡ Some entry
  pub named : entry.clause ≡ n
  pub blocks : IsTrue (holds clause entry.blocker)
