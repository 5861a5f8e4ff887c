use Rattle.prover_growth.proofs.HeadCounts.{constant-count}
use Rattle.prover_growth.proofs.heads.count_constants.Goals as goal

pub returns : goal.returns
returns c =
    constant-count c.args.tables.now c.requires.right.0 c.requires.right.1 c.args.base c.terms_of-names.result.now c.terms_of-takers.result.now c.in_ok-plus.field-0
    c.terms_of-names.ensures c.terms_of-takers.ensures c.in_ok-plus.ensures
