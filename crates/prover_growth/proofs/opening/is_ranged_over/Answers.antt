use Rattle.std.proofs.Common.{length, ap, ◌∙◌}
use Rattle.stt_core.specs.View.{the_type}
use Rattle.prover_growth.proofs.OffersLaws.{ranged-told}
use Rattle.prover_growth.proofs.opening.is_ranged_over.Goals as goal

pub returns : goal.returns
returns c =
    let t = c.args.tables.now in
    let a = the_type c.args.ty.now in
    ranged-told t.basis.bank.terms t.basis.lits a (length c.terms_of.result.now) t.noted.items (ap length (c.terms_of.ensures ∙ c.requires.right.1.universals a))
