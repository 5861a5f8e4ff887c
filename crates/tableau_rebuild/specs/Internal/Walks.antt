-- A walk over lines, by what is left to do.
use Rattle.std.specs.Prelude.{◌≡◌, ◌<◌, ◌+◌, ◌*◌, ℕ, suc, Bool, false, List, [], ◌∷◌, map, length, Some, slice_get, slice_index_or}
use Rattle.std.specs.List.{list_any, All}
use Rattle.rebuild_spec.specs.Trees.{Tree, leaf, cut, same_line}
use Rattle.rebuild_spec.specs.Lines.{walked, with_line}
use Rattle.tableau_rebuild.specs.declared.draft.Draft.{Draft}
use Rattle.tableau_rebuild.specs.declared.walk.Task.{Task}
use Rattle.tableau_rebuild.specs.declared.walk.Task.TheVariants.{Visit, Enter}
use Rattle.tableau_rebuild.specs.Internal.Drafts.{tree_at, trees}

abbrev pub task_number : Task → ℕ
task_number (Visit i) = i
task_number (Enter i) = i

abbrev pub tree_size : Tree → ℕ
tree_size (leaf p ls rule children) = 1
tree_size (cut p v t u) = suc (tree_size t + tree_size u)

-- more than what is left to do
abbrev pub weight : List Tree → List Task → ℕ
weight ts [] = 0
weight ts (Visit i ∷ tasks) = 2 * tree_size (tree_at ts i) + weight ts tasks
weight ts (Enter i ∷ tasks) = 1 + weight ts tasks

-- the lines after the tasks, the next of which is the last
abbrev pub run : List Tree → List Tree → List Task → List Tree
run ts done [] = done
run ts done (Visit i ∷ tasks) = run ts (walked done (tree_at ts i)) tasks
run ts done (Enter i ∷ tasks) = run ts (with_line done (tree_at ts i)) tasks

-- the flags tell which lines are listed, and what is left to do makes of these all lines of the walk from the last one
pub record IsWalkUnderWay (drafts : List Draft) (last : ℕ) (listed : List Bool) (order : List ℕ) (tasks : List Task) : Type 0 where
  pub flags : length listed ≡ length drafts
  pub marks :
      (i : ℕ)
      → i < length drafts
      → slice_index_or listed i false ≡ list_any (same_line (tree_at (trees drafts) i)) (map (tree_at (trees drafts)) order)
  pub in_range : All (λ t. task_number t < length drafts) tasks
  pub inside : (k i : ℕ) → slice_get order k ≡ Some i → i < length drafts
  pub lines : run (trees drafts) (map (tree_at (trees drafts)) order) tasks ≡ walked [] (tree_at (trees drafts) last)
