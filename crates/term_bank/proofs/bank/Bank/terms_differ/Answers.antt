use Rattle.std.proofs.Common.{ap}
use Rattle.term_bank.specs.Content.{content_scope}
use Rattle.term_bank.specs.Internal.Inside.{the_content}
use Rattle.term_bank.proofs.SoundLaws.{within_entries}
use Rattle.term_bank.proofs.DistinctLaws.{one_term}
use Rattle.term_bank.proofs.bank.Bank.terms_differ.Goals as goal

pub returns : goal.returns
returns c =
    let es = c.self.inside.nodes.entries in
    let ts = c.args.self.now.terms in
    let same = ap (λ b. b.terms) c.self.view_is in
    λ i j a b e. one_term (content_scope (the_content c.self.inside)) es c.self.invariant.nodes c.len-len.ensures.unique ts i j same (within_entries es ts i same a) (within_entries es ts j same b) e
