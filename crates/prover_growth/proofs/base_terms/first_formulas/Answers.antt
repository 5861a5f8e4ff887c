use Rattle.prover_growth.proofs.BasisLaws.{basis-grows-on}
use Rattle.prover_growth.proofs.BaseTermLaws.{first-formulas, formula-places}
use Rattle.prover_growth.proofs.base_terms.first_formulas.Goals as goal

pub returns-clause-terms : goal.returns-clause-terms
returns-clause-terms c =
    first-formulas c.falsity_in.new.basis.bank c.truth_in.new.basis.bank c.in_ok-bottom.bottom c.in_ok-truth.truth c.in_ok-ids.ids
    c.in_ok-truth.ensures.grows.bank c.in_ok-bottom.ensures.term c.in_ok-truth.ensures.term c.in_ok-ids.ensures

pub returns-clause-places : goal.returns-clause-places
returns-clause-places c =
    formula-places c.falsity_in.new.basis.bank c.truth_in.new.basis.bank c.in_ok-bottom.bottom c.in_ok-truth.truth c.in_ok-ids.ids
    c.in_ok-truth.ensures.grows.bank c.in_ok-bottom.ensures.term c.in_ok-truth.ensures.term c.in_ok-ids.ensures

pub returns-clause-grows : goal.returns-clause-grows
returns-clause-grows c = basis-grows-on c.args.basis.now c.falsity_in.new.basis c.truth_in.new.basis c.in_ok-bottom.ensures.grows c.in_ok-truth.ensures.grows
