use Rattle.std.proofs.Common.{sym, ◌∙◌}
use Rattle.tableau_calculus.proofs.ListLaws.{untrue}
use Rattle.tableau_calculus.proofs.AddedLaws.{added-there, added-new}
use Rattle.stt_tableau.proofs.start.add.Goals as goal

pub returns-in_ok-push : goal.returns-in_ok-push
returns-in_ok-push c =
    c.in_ok-push.ensures.ok ∙ sym (added-new c.args.lits.now c.args.lit (λ there. untrue (c.contains.ensures.1 there) c.if-not-contains.true))

pub returns-else-not-contains : goal.returns-else-not-contains
returns-else-not-contains c = sym (added-there c.args.lits.now c.args.lit (c.contains.ensures.0 c.if-not-contains.false))
