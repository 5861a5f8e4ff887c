use Rattle.prover_run.proofs.OneTree.{one_tree}
use Rattle.prover_run.proofs.UsedOrder.{used_list-one}
use Rattle.prover_run.proofs.law.one_tree_of_refutation.Goals as goal

pub returns-clause-used : goal.returns-clause-used
returns-clause-used c = used_list-one

pub returns-clause-tree : goal.returns-clause-tree
returns-clause-tree c = one_tree
