use Rattle.std.proofs.Common.{sym, ap, length, ◌∙◌}
use Rattle.term_bank.proofs.SoundLaws.{terms_of-length}
use Rattle.term_bank.proofs.bank.Bank.len.Goals as goal

pub returns : goal.returns
returns c = c.len.ensures.len ∙ sym (terms_of-length c.self.inside.nodes.entries) ∙ ap (λ b. length b.terms) c.self.view_is
