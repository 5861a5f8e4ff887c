-- The instances that a log uses.
use Rattle.std.specs.Prelude.{◌≡◌, ℕ, List, Some, slice_get}
use Rattle.sat_log.specs.declared.log.LogEntry.{LogEntry}
use Rattle.tableau_clauses.specs.declared.origin.Origin.TheVariants.{Instance as From}
use Rattle.tableau_clauses.specs.Table.{Table, the_origins}
use Rattle.rebuild_spec.specs.Trees.{at_clause}
use Rattle.rebuild_spec.specs.Used.{IsUsed}

-- the chain of the last result reaches a clause of the instance
pub record IsUsedInstance (t : Table) (log : List LogEntry) (k : ℕ) : Type 0 where
  pub number : ℕ
  pub used : IsUsed log (at_clause number)
  pub origin : slice_get (the_origins t) number ≡ Some (From k)
