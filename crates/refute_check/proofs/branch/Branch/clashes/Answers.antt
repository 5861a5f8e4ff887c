use Rattle.std.proofs.Common.{◌∙◌, sym}
use Rattle.refute_check.proofs.SetLaws.{positive_clash, negative_clash, clash_sides}
use Rattle.refute_check.proofs.branch.Branch.clashes.Goals as goal

pub returns-then-meet : goal.returns-then-meet
returns-then-meet c = (λ h. positive_clash c.args.self.now c.args.other.now (sym c.meet.ensures ∙ h), λ h. c.if-meet.true)

pub returns-else-meet : goal.returns-else-meet
returns-else-meet c = (
  λ h. negative_clash c.args.self.now c.args.other.now (sym c.meet-else-meet.ensures ∙ h),
  λ h. c.meet-else-meet.ensures ∙ clash_sides c.args.self.now c.args.other.now (sym c.meet.ensures ∙ c.if-meet.false) h.1 h.0 h.2 h.3,
)
