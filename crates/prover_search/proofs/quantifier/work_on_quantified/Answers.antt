use Rattle.std.proofs.lemmas.Bool.{not-true, not-false}
use Rattle.prover_search.proofs.AdvanceLaws.{alone-advances}
use Rattle.prover_search.proofs.quantifier.work_on_quantified.Goals as goal

pub work_on_denial-requires-clause-negative : goal.work_on_denial-requires-clause-negative
work_on_denial-requires-clause-negative g c = not-true c.args.lit.positive c.if-not-lit.true

pub work_on_universal-requires-clause-positive : goal.work_on_universal-requires-clause-positive
work_on_universal-requires-clause-positive g c = not-false c.args.lit.positive c.if-not-lit.false

pub returns-clause-advances : goal.returns-clause-advances
returns-clause-advances g c = alone-advances c.args.core.now c.work_on_universal.new.core c.in_ok-work_on_universal.ensures.advances
