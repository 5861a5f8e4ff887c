use Rattle.stt_core.specs.View.{the_type}
use Rattle.prover_growth.proofs.BasisLaws.{basis-by-terms, grows-by-terms}
use Rattle.prover_growth.proofs.OffersLaws.{witness-neutral}
use Rattle.prover_growth.proofs.offers.witness_in.Goals as goal

pub eta-requires-clause-fits : goal.eta-requires-clause-fits
eta-requires-clause-fits c =
    witness-neutral c.args.basis.now c.requires.good c.args.w c.requires.row.0 c.requires.row.1.0 (the_type c.args.ty.now) c.requires.row.1.1

pub eta-requires-clause-right : goal.eta-requires-clause-right
eta-requires-clause-right c = c.requires.good.memo

pub returns-clause-good : goal.returns-clause-good
returns-clause-good c =
    let k = basis-by-terms c.args.basis.now c.eta.new.bank c.eta.ensures.grows c.requires.good in
    record { atoms = k.atoms; rows = k.rows; typed = k.typed; memo = c.eta.ensures.right }

pub returns-clause-grows : goal.returns-clause-grows
returns-clause-grows c =
    let k = grows-by-terms c.args.basis.now c.eta.new.bank c.eta.ensures.grows in
    record { bank = k.bank; lits = k.lits; witnesses = k.witnesses }
