use Rattle.std.proofs.Common.{◌∙◌, sym}
use Rattle.refute_check.proofs.TakingLaws.{two_takes, first_missing, second_missing, number_at, no_number_at}
use Rattle.refute_check.proofs.taking.at_two.Goals as goal

pub returns-in-Some-literal_at : goal.returns-in-Some-literal_at
returns-in-Some-literal_at c = λ s ls h.
    let n = c.in-Some.first in
    let m = c.in-Some-literal_at.second in
    let at = number_at s ls c.args.branch.now c.args.i n h (sym c.literal_at.ensures ∙ c.in-Some.is) in
    let there = number_at s ls c.args.branch.now c.args.j m h (sym c.literal_at-in-Some.ensures ∙ c.in-Some-literal_at.is) in
    two_takes s ls c.args.i c.args.j n m at.0 there.0 at.1 there.1 c.args.rule

pub returns-in-None-literal_at : goal.returns-in-None-literal_at
returns-in-None-literal_at c = λ s ls h.
    second_missing s ls c.args.rule c.args.i c.args.j (no_number_at s ls c.args.branch.now c.args.j h (sym c.literal_at-in-Some.ensures ∙ c.in-None-literal_at.is))

pub returns-in-None : goal.returns-in-None
returns-in-None c = λ s ls h.
    first_missing s ls c.args.rule c.args.i c.args.j (no_number_at s ls c.args.branch.now c.args.i h (sym c.literal_at.ensures ∙ c.in-None.is))
