use Rattle.std.proofs.Common.{[], Some, option_map, sym, ap, subst, ◌∙◌}
use Rattle.stt_core.specs.SimpleType.{predicate}
use Rattle.stt_core.specs.Canonical.{IsCanonical}
use Rattle.stt_core.specs.View.{the_type}
use Rattle.stt_core.specs.ScopeView.{the_scope}
use Rattle.tableau_calculus.proofs.InstanceLaws.{des_is}
use Rattle.stt_tableau.proofs.InstanceTypes.{predicate_on, not_untyped}
use Rattle.stt_tableau.proofs.description.des_instance.Goals as goal

pub nowhere_repeated_or_described-requires : goal.nowhere_repeated_or_described-requires
nowhere_repeated_or_described-requires c =
    let scope = the_scope c.args.sig.now c.args.types.now in
    let h = predicate_on scope c.requires.0 (the_type c.in-Some-Arrow.a.value) (the_type c.in-Some-Arrow.field-0-1.value) c.args.f.now (option_map the_type c.in_ok-a.field-0) c.requires.1 c.in_ok-a.ensures (ap (option_map the_type) c.in-Some-Arrow.is ∙ ap (λ x. Some (the_type x)) c.in-Some-Arrow.field-0-is) in
    (scope, subst (λ x. IsCanonical (the_scope c.args.sig.now c.args.types.now) [] (predicate (the_type x)) c.args.f.now) (sym c.deref.ensures) h)

pub returns-in-Some-Arrow : goal.returns-in-Some-Arrow
returns-in-Some-Arrow c = λ rows.
    let scope = the_scope c.args.sig.now c.args.types.now in
    let h = predicate_on scope c.requires.0 (the_type c.in-Some-Arrow.a.value) (the_type c.in-Some-Arrow.field-0-1.value) c.args.f.now (option_map the_type c.in_ok-a.field-0) c.requires.1 c.in_ok-a.ensures (ap (option_map the_type) c.in-Some-Arrow.is ∙ ap (λ x. Some (the_type x)) c.in-Some-Arrow.field-0-is) in
    des_is scope rows c.args.branch.now (the_type c.deref.result.now) c.args.f.now c.in_ok-nowhere_repeated_or_described-in-Some-Arrow.field-0
    (subst (λ x. IsCanonical (the_scope c.args.sig.now c.args.types.now) [] (predicate (the_type x)) c.args.f.now) (sym c.deref.ensures) h) c.in_ok-nowhere_repeated_or_described-in-Some-Arrow.ensures

pub returns : goal.returns
returns c = λ rows alternatives h.
    not_untyped (the_scope c.args.sig.now c.args.types.now) c.requires.0 c.args.f.now (option_map the_type c.in_ok-a.field-0) c.requires.1 c.in_ok-a.ensures (ap (option_map the_type) c.in-None.is)
