use Rattle.std.proofs.Common.{subst}
use Rattle.refute_check.specs.Numbered.{numbered_literal}
use Rattle.refute_check.specs.Internal.Shared.{NumbersLiteral}
use Rattle.refute_check.proofs.TakingLaws.{cut_taken}
use Rattle.refute_check.proofs.shared.Shared.of_cut.Goals as goal

pub returns-in-Some-clause-takes : goal.returns-in-Some-clause-takes
returns-in-Some-clause-takes c = λ ls.
    let new = c.literal.new.self in
    let l = numbered_literal c.args.numbering.now c.args.lit.now in
    let is = subst (NumbersLiteral new l) c.in-Some.is c.in_ok-lit.ensures.number in
    (is.0, cut_taken new ls c.in-Some.lit l is.1 is.2)
