use Rattle.std.proofs.Common.{length, ap}
use Rattle.stt_core.specs.View.{the_type}
use Rattle.prover_growth.proofs.OffersLaws.{listed-told}
use Rattle.prover_growth.proofs.opening.has_terms.Goals as goal

pub returns : goal.returns
returns c =
    let t = c.args.tables.now in
    listed-told t.basis.bank.terms t.basis.lits (the_type c.args.ty.now) (length c.terms_of.result.now) t.terms (ap length c.terms_of.ensures)
