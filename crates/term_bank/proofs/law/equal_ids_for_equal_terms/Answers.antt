use Rattle.std.proofs.Common.{ap}
use Rattle.term_bank.specs.Terms.{term_at}
use Rattle.term_bank.proofs.law.equal_ids_for_equal_terms.Goals as goal

pub returns : goal.returns
returns c = λ i j a b. (λ e. ap (term_at c.args.bank.now.terms) e, λ e. c.terms_differ.ensures i j a b e)
