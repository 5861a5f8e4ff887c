use Rattle.std.proofs.Common.{◌≡◌, ◌+◌, ◌-◌, ap, sym, ◌∙◌, arith}
use Rattle.stt_core.specs.Lambda.{bound}
use Rattle.stt_core.specs.View.{the_head}
use Rattle.stt_core.specs.Lift.{lift_by}
use Rattle.stt_core.proofs.HeadLaws.{constant_head}
use Rattle.normal_forms.proofs.Spines.{lift_by_above, lift_by_constant}
use Rattle.bank_normal.proofs.expanded.lowered.Goals as goal

pub returns-then-by-j : goal.returns-then-by-j
returns-then-by-j c =
    let j = c.in-Bound.j in
    let by = c.args.by in
    let same : j - by + by ≡ j = omega (arith, c.if-by-j.true) in
    ap the_head c.in-Bound.is ∙ sym (lift_by_above by 0 (j - by) (omega arith) ∙ ap bound same)

pub returns : goal.returns
returns c =
    let d = constant_head c.args.head c.in_default.not-Bound in
    d.1 ∙ sym (lift_by_constant c.args.by 0 d.0) ∙ ap (lift_by c.args.by 0) (sym d.1)
