-- Lines as they are written.
use Rattle.std.specs.Prelude.{◌≡◌, ℕ, List}
use Rattle.std.specs.List.{AllByRecursion}
use Rattle.term_bank.specs.Content.{Content}
use Rattle.witness_names.specs.Rows.{rows_of}
use Rattle.rebuild_spec.specs.NeededRows.{rows_for_lines}
use Rattle.small_rebuilt.specs.Small.{HasNumbers}
use Rattle.tableau_rebuild.specs.Pools.{IsMadePool}
use Rattle.plain_tableau.specs.declared.writing.Writing.{Writing}

-- The literals are those of their numbers, the numbers in the lines are in range, and the rows that they need are counted.
pub record IsWriting (b : Content) (atoms witnesses : List ℕ) (w : Writing) : Type 0 where
  pub made : IsMadePool b.terms atoms w.pool
  pub in_range : AllByRecursion HasNumbers w.lines
  pub count : w.rows ≡ rows_for_lines (rows_of b.terms witnesses) w.lines
