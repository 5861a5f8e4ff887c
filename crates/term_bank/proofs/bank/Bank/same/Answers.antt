use Rattle.std.proofs.Common.{ap, eq-eqb}
use Rattle.std.proofs.lemmas.Bool.{eqb-true}
use Rattle.term_bank.specs.Terms.{term_at}
use Rattle.term_bank.proofs.bank.Bank.same.Goals as goal

pub returns : goal.returns
returns c = (
  λ e. ap (term_at c.args.self.now.terms) (eqb-true c.args.a c.args.b e),
  λ e. eq-eqb c.args.a c.args.b (c.terms_differ.ensures c.args.a c.args.b c.requires.a_within c.requires.b_within e),
)
