use Rattle.std.proofs.Common.{ap}
use Rattle.term_bank.specs.Content.{Content}
use Rattle.refute_check.specs.declared.shared.Shared.{Shared}
use Rattle.refute_check.proofs.SharedLaws.{good-none}
use Rattle.refute_check.proofs.shared.Shared.new.Goals as goal

pub returns-clause-good : goal.returns-clause-good
returns-clause-good c =
    let new : Shared = record { bank = c.new.result; normal = c.new-2.result; lits = c.new-3.result; witnesses = c.new-4.result; types = c.new-5.result } in
    good-none new c.new-3.ensures c.new-4.ensures (ap (λ (b : Content). b.witnesses) c.new.ensures) c.new-5.ensures (c.new-2.ensures c.new.result)
