use Rattle.thf_parse.proofs.ParseLaws.{one-tree}
use Rattle.thf_parse.proofs.law.one_tree.Goals as goal

pub returns : goal.returns
returns c = one-tree
