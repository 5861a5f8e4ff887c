use Rattle.std.proofs.Common.{sym, ap, ◌∙◌}
use Rattle.stt_core.specs.Lambda.{bound}
use Rattle.stt_core.specs.View.{the_head}
use Rattle.stt_core.proofs.HeadLaws.{constant_head}
use Rattle.stt_core.specs.Lift.{lift_by}
use Rattle.normal_forms.proofs.Spines.{lift_by_above, lift_by_below, lift_by_constant}
use Rattle.stt_normal.proofs.lift.lift_head.Goals as goal

pub returns-in_ok-deeper-in-Bound : goal.returns-in_ok-deeper-in-Bound
returns-in_ok-deeper-in-Bound c =
    ap bound c.in_ok-deeper-in-Bound.ensures
    ∙ sym (lift_by_above c.args.by c.args.from c.in-Bound.j c.if-from-j.true)
    ∙ ap (λ h. lift_by c.args.by c.args.from (the_head h)) (sym c.in-Bound.is)

pub returns-else-from-j : goal.returns-else-from-j
returns-else-from-j c =
    sym (lift_by_below c.args.by c.args.from c.in-Bound.j c.if-from-j.false)
    ∙ ap (λ h. lift_by c.args.by c.args.from (the_head h)) (sym c.in-Bound.is)

pub returns-in_ok-try_clone-in_default : goal.returns-in_ok-try_clone-in_default
returns-in_ok-try_clone-in_default c =
    let d = constant_head c.args.head.now c.in_default.not-Bound in
    c.in_ok-try_clone-in_default.ensures
    ∙ d.1
    ∙ sym (lift_by_constant c.args.by c.args.from d.0)
    ∙ ap (lift_by c.args.by c.args.from) (sym d.1)
