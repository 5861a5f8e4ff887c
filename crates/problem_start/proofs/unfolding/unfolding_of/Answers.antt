use Rattle.std.proofs.Common.{sym, subst}
use Rattle.problem_start.specs.Unfolds.{definitions_if, IsUnfolding}
use Rattle.problem_start.proofs.unfolding.unfolding_of.Goals as goal

pub returns-in_ok-plain_unfolding-clause-definitions : goal.returns-in_ok-plain_unfolding-clause-definitions
returns-in_ok-plain_unfolding-clause-definitions c =
    subst (λ b. IsUnfolding c.args.bank.now c.in_ok-plain_unfolding.field-0 (definitions_if b c.args.problem.now)) (sym c.if-unfolds.false)
    (c.in_ok-plain_unfolding.ensures.definitions c.args.bank.now)
