use Rattle.plain_tableau.proofs.SmallTrees.{stripped_small}
use Rattle.plain_tableau.proofs.law.trees_are_small.Goals as goal

pub returns : goal.returns
returns c = λ used nodes s each h in_range.
    stripped_small c.args.bank.now c.args.lits.now c.args.witnesses.now c.args.steps.now c.args.log.now c.clauses_come_from_origins.ensures c.requires.small c.requires.instances used nodes s each h in_range
