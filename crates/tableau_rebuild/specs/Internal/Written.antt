-- The lines as they are written.
use Rattle.std.specs.Prelude.{◌<◌, ℕ, List, length}
use Rattle.stt_core.specs.Lambda.{Lambda}
use Rattle.sat_base.specs.Literal.{IsOver}
use Rattle.term_bank.specs.Content.{Content}
use Rattle.literal_map.specs.declared.instance.Instance.{Instance as BankInstance}
use Rattle.tableau_clauses.specs.Table.{Table}
use Rattle.rebuild_spec.specs.Trees.{at_clause, at_step, at_result, Tree, leaf, cut, branch}
use Rattle.rebuild_spec.proofs.WalkLaws.{IsEach}
use Rattle.tableau_rebuild.specs.Tables.{the_sources}
use Rattle.tableau_rebuild.specs.declared.draft.Draft.{Draft}
use Rattle.tableau_rebuild.specs.Internal.Drafts.{tree_at, trees}
use Rattle.tableau_rebuild.specs.Internal.Arenas.{fleshed}
use Rattle.tableau_rebuild.specs.Internal.LineParts.{IsClauseFrom}

-- the tree of a draft, with the lines of the clauses
abbrev pub the_tree : List Lambda → List ℕ → Table → List Draft → ℕ → Tree
the_tree terms atoms t drafts i = fleshed (the_sources terms atoms t) (tree_at (trees drafts) i)

-- The branch of the line is over the numbered atoms, and so is what a cut is on. The clause of a clause's line comes from an instance.
abbrev pub IsFoundedLine : Content → List ℕ → Table → Tree → Type 0
IsFoundedLine b atoms t (leaf (at_clause n) ls rule children) = IsOver (length atoms) ls × ((i : BankInstance) × IsClauseFrom b atoms t n i)
IsFoundedLine b atoms t (leaf (at_step n k) ls rule children) = IsOver (length atoms) ls
IsFoundedLine b atoms t (leaf (at_result n) ls rule children) = IsOver (length atoms) ls
IsFoundedLine b atoms t (cut p v x y) = (v.0 < length atoms) × IsOver (length atoms) (branch (cut p v x y))

-- it is so of each line that a draft stands on
abbrev pub IsFounded : Content → List ℕ → Table → List Draft → ℕ → Type 0
IsFounded b atoms t drafts i = IsEach (IsFoundedLine b atoms t) (the_tree b.terms atoms t drafts i)
