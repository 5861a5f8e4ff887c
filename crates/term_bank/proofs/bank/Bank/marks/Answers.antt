use Rattle.std.proofs.Common.{ap, subst}
use Rattle.std.specs.Option.{IsSome}
use Rattle.term_bank.proofs.SoundLaws.{within_entries}
use Rattle.term_bank.proofs.bank.Bank.marks.Goals as goal

pub unreachable-requires : goal.unreachable-requires
unreachable-requires c =
    let s = c.get_index.ensures.found.1 (within_entries c.self.inside.nodes.entries c.args.self.now.terms c.args.id (ap (λ b. b.terms) c.self.view_is) c.requires) in
    let e = subst IsSome c.in-None.is s in cc
