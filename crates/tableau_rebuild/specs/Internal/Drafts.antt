-- The trees of lines that have no numbers yet. The lines of clauses have no branches here.
use Rattle.std.specs.Prelude.{◌≡◌, ◌<◌, ℕ, suc, true, List, [], ◌∷◌, ◌++◌, length, Some, slice_get, slice_index_or}
use Rattle.tableau_calculus.specs.declared.rule_use.RuleUse.TheVariants.{AtTwo}
use Rattle.tableau_calculus.specs.declared.rule_use.TwoPlaces.TheVariants.{Close as CloseRule}
use Rattle.sat_base.specs.declared.literal.Var.{Var}
use Rattle.rebuild_spec.specs.Trees.{Place, at_clause, at_step, Tree, leaf, cut, same_line}
use Rattle.tableau_rebuild.specs.Tables.{no_rule}
use Rattle.tableau_rebuild.specs.declared.draft.At.{At}
use Rattle.tableau_rebuild.specs.declared.draft.Draft.{Draft}
use Rattle.tableau_rebuild.specs.declared.draft.Draft.TheVariants.{Clause, Close, Cut}

abbrev pub no_tree : Tree
no_tree = leaf (at_clause 0) [] no_rule []

abbrev pub tree_at : List Tree → ℕ → Tree
tree_at ts i = slice_index_or ts i no_tree

-- the place after a step
abbrev pub place_after_step : At → Place
place_after_step at = at_step at.result (suc at.step)

-- the tree of a draft over those of the earlier ones
abbrev pub tree_of : List Tree → Draft → Tree
tree_of earlier (Clause n) = leaf (at_clause n) [] no_rule []
tree_of earlier (Close at l m) = leaf (place_after_step at) (l ∷ m ∷ []) (AtTwo CloseRule 0 1) []
tree_of earlier (Cut at v a b) = cut (place_after_step at) v (tree_at earlier a) (tree_at earlier b)

abbrev pub trees_after : List Tree → List Draft → List Tree
trees_after earlier [] = earlier
trees_after earlier (d ∷ ds) = trees_after (earlier ++ tree_of earlier d ∷ []) ds

abbrev pub trees : List Draft → List Tree
trees drafts = trees_after [] drafts

-- a cut's lines are earlier ones, and no two lines are made at one place
pub record AreDrafts (drafts : List Draft) : Type 0 where
  pub below : (i : ℕ) (at : At) (v : Var) (a b : ℕ) → slice_get drafts i ≡ Some (Cut at v a b) → (a < i) × (b < i)
  pub apart :
      (i j : ℕ) → i < length drafts → j < length drafts → same_line (tree_at (trees drafts) i) (tree_at (trees drafts) j) ≡ true → i ≡ j
