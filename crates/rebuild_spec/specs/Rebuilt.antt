-- The refutation that is rebuilt from a log.
use Rattle.std.specs.Prelude.{◌≡◌, ℕ, ◌+◌, [], length, take}
use Rattle.tableau_calculus.specs.declared.refutation.Refutation.{Refutation}
use Rattle.rebuild_spec.specs.Input.{Input}
use Rattle.rebuild_spec.specs.Trees.{Tree, at_result}
use Rattle.rebuild_spec.specs.Stands.{Stands, line}
use Rattle.rebuild_spec.specs.Lines.{lines_from}
use Rattle.rebuild_spec.specs.NeededRows.{rows_for_lines}

-- The refutation is the one that is rebuilt: its lines are those of the walk from the line that stands for the last result, which is the
-- empty clause, and its rows are those that they need.
pub record IsRebuilt (input : Input) (refutation : Refutation) : Type 0 where
  pub number : ℕ
  pub is_last : length input.log ≡ number + 1
  pub last : Tree
  pub stands : Stands input (at_result number) [] (line last)
  pub lines : refutation.lines ≡ lines_from input.atoms last
  pub rows : refutation.witnesses ≡ take (rows_for_lines input.rows refutation.lines) input.rows
