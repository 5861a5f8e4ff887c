use Rattle.std.proofs.Common.{ap, ◌∙◌}
use Rattle.stt_core.specs.Lambda.{bound, lam, applied}
use Rattle.stt_core.specs.View.{the_head, the_type}
use Rattle.normal_forms.specs.Normal.{eta}
use Rattle.normal_forms.proofs.EtaLaws.{eta_whole}
use Rattle.stt_normal.proofs.eta.+eta_long.Goals as goal

pub returns-in_ok-bind-in-Arrow : goal.returns-in_ok-bind-in-Arrow
returns-in_ok-bind-in-Arrow t c =
    eta_whole (the_type c.args.ty.now) (the_type c.in-Arrow.argument.value) (the_type c.in-Arrow.rest.value) (the_head c.args.head) (the_head c.in_ok-lifted-in-Arrow.lifted) c.args.args c.in_ok-all-in-Arrow.all c.new.result c.in_ok-variable-in-Arrow.variable c.in_ok-inside-in-Arrow.inside c.in_ok-bind-in-Arrow.field-0
    (ap the_type c.in-Arrow.is)
    c.new.ensures
    (c.in_ok-variable-in-Arrow.ensures ∙ ap (λ x. eta (the_type x) (applied (bound 0) c.new.result)) c.deref.ensures)
    c.in_ok-lifted-in-Arrow.ensures
    c.in_ok-all-in-Arrow.ensures
    (c.in_ok-inside-in-Arrow.ensures ∙ ap (λ x. eta (the_type x) (applied (the_head c.in_ok-lifted-in-Arrow.lifted) c.push.new.self)) c.deref-in-Arrow.ensures ∙ ap (λ x. eta (the_type c.in-Arrow.rest.value) (applied (the_head c.in_ok-lifted-in-Arrow.lifted) x)) c.in_ok-push-in-Arrow.ensures.ok)
    (c.in_ok-bind-in-Arrow.ensures ∙ ap (λ x. lam (the_type x) c.in_ok-inside-in-Arrow.inside) c.deref-in-Arrow-2.ensures)
