use Rattle.plain_tableau.proofs.SmallTrees.{tree_terms_small}
use Rattle.plain_tableau.proofs.law.tree_terms_are_small.Goals as goal

pub returns : goal.returns
returns c = tree_terms_small
