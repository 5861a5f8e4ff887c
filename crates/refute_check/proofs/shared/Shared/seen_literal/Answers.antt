use Rattle.std.proofs.Common.{subst}
use Rattle.refute_check.specs.Numbered.{numbered_literal}
use Rattle.refute_check.specs.Internal.Shared.{NumbersLiteral}
use Rattle.refute_check.proofs.SeenLaws.{seen_stays}
use Rattle.refute_check.proofs.shared.Shared.seen_literal.Goals as goal

pub returns-in_ok-note-in-Some-2-clause-seen : goal.returns-in_ok-note-in-Some-2-clause-seen
returns-in_ok-note-in-Some-2-clause-seen c =
    let names = c.args.numbering.now in
    let new = c.literal.new.self in
    let e = c.in_ok-number.ensures in
    c.in_ok-note-in-Some-2.ensures names new (seen_stays names c.args.self.now new c.args.seen.now c.requires.good e.extends c.requires.seen)
    (subst (NumbersLiteral new (numbered_literal names c.args.lit.now)) c.in-Some-2.is e.number)

pub returns-in-None-clause-seen : goal.returns-in-None-clause-seen
returns-in-None-clause-seen c =
    seen_stays c.args.numbering.now c.args.self.now c.literal.new.self c.args.seen.now c.requires.good c.in_ok-number.ensures.extends c.requires.seen
