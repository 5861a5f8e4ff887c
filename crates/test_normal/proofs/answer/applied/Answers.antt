use Rattle.std.proofs.Common.{[], ap, sym, ◌∙◌, option_map}
use Rattle.stt_core.specs.ScopeView.{the_scope}
use Rattle.stt_core.specs.SimpleType.{same_type}
use Rattle.stt_core.specs.View.{the_type}
use Rattle.normal_forms.proofs.NormalReady.{can_apply}
use Rattle.test_normal.proofs.answer.applied.Goals as goal

pub apply_nf-requires : goal.apply_nf-requires
apply_nf-requires c =
    can_apply (the_scope c.args.sig.now c.args.wits.now) [] (the_type c.in-Some-Arrow.field-0) (the_type c.in-Some-Arrow.argument.value) (the_type c.in-Some-Arrow.field-0-1.value) (the_type c.in-Some.ty) c.args.f.now c.args.a.now
    (ap (option_map the_type) (sym c.in-Some-Arrow.is) ∙ c.in_ok-argument.ensures)
    (ap the_type c.in-Some-Arrow.field-0-is)
    (ap (option_map the_type) (sym c.in-Some.is) ∙ c.in_ok-ty.ensures)
    (ap (λ x. same_type (the_type x) (the_type c.in-Some.ty)) (sym c.deref.ensures) ∙ sym c.same.ensures ∙ c.if-not-same.false)
