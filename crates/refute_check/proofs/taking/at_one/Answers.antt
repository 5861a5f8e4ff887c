use Rattle.std.proofs.Common.{◌∙◌, sym}
use Rattle.refute_check.proofs.TakingLaws.{one_takes, one_missing, number_at, no_number_at}
use Rattle.refute_check.proofs.taking.at_one.Goals as goal

pub returns-in-Some : goal.returns-in-Some
returns-in-Some c = λ s ls h.
    let n = c.in-Some.lit in
    let at = number_at s ls c.args.branch.now c.args.i n h (sym c.literal_at.ensures ∙ c.in-Some.is) in
    one_takes s ls c.args.i n at.0 at.1 c.args.rule

pub returns-in-None : goal.returns-in-None
returns-in-None c = λ s ls h.
    one_missing s ls c.args.rule c.args.i (no_number_at s ls c.args.branch.now c.args.i h (sym c.literal_at.ensures ∙ c.in-None.is))
