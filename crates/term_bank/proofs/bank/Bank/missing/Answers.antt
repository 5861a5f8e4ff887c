use Rattle.std.proofs.Common.{arith}
use Rattle.term_bank.specs.Terms.{term_at}
use Rattle.term_bank.proofs.ClosedLaws.{free_below, missing_least}
use Rattle.term_bank.proofs.bank.Bank.missing.Goals as goal

pub returns-clause-bound : goal.returns-clause-bound
returns-clause-bound c = λ k f. omega (arith, free_below (term_at c.args.self.now.terms c.args.id) k f, c.marks.ensures.marks.missing_is)

pub returns-clause-least : goal.returns-clause-least
returns-clause-least c = λ n h. omega (arith, missing_least (term_at c.args.self.now.terms c.args.id) n h, c.marks.ensures.marks.missing_is)
