use Rattle.std.proofs.Common.{◌≡◌, ap, sym, ◌∙◌, arith}
use Rattle.stt_core.specs.ContextView.{the_context, declared_scope}
use Rattle.stt_core.specs.Lambda.{lam, app}
use Rattle.stt_core.specs.View.{the_term, the_type}
use Rattle.normal_forms.specs.Normal.{apply_each, normal_form}
use Rattle.normal_forms.proofs.NormalReady.{argument_ready, function_ready, body_ready, function_is, function_applies}
use Rattle.stt_normal.proofs.normal.+normal_applied.Goals as goal

pub normal_applied-requires : goal.normal_applied-requires
normal_applied-requires t c =
    let e : the_term c.args.term.now ≡ app (the_term c.in-App.function.value) (the_term c.deref.result.now) = ap the_term c.in-App.is ∙ ap (λ x. app (the_term c.in-App.function.value) (the_term x)) (sym c.deref.ensures) in
    let h = argument_ready (declared_scope c.args.declared.now) (the_context c.args.ctx.now) (the_term c.args.term.now) (the_term c.in-App.function.value) (the_term c.deref.result.now) c.args.args c.new.result c.requires c.new.ensures e in
    (omega (arith, c.decreases, h.1), h.0)

pub normal_applied-requires-in-App : goal.normal_applied-requires-in-App
normal_applied-requires-in-App t c =
    let scope = declared_scope c.args.declared.now in
    let ctx = the_context c.args.ctx.now in
    let u = the_term c.deref.result.now in
    let e : the_term c.args.term.now ≡ app (the_term c.deref-in-App.result.now) (the_term c.deref.result.now) = ap the_term c.in-App.is ∙ ap (λ x. app (the_term x) (the_term c.in-App.argument.value)) (sym c.deref-in-App.ensures) ∙ ap (λ x. app (the_term c.deref-in-App.result.now) (the_term x)) (sym c.deref.ensures) in
    let v : c.in_ok-argument-in-App.argument ≡ normal_form scope ctx u = c.in_ok-argument-in-App.ensures ∙ ap (apply_each (normal_form scope ctx u)) c.new.ensures in
    let h = function_ready scope ctx (the_term c.args.term.now) (the_term c.deref-in-App.result.now) u c.in_ok-argument-in-App.argument c.args.args c.push_front.new.self c.requires e v c.in_ok-push_front-in-App.ensures.ok in
    (omega (arith, c.decreases, h.1), h.0)

pub normal_applied-requires-in-Lam : goal.normal_applied-requires-in-Lam
normal_applied-requires-in-Lam t c =
    let e : the_term c.args.term.now ≡ lam (the_type c.in-Lam.a) (the_term c.deref-in-Lam.result.now) = ap the_term c.in-Lam.is ∙ ap (λ x. lam (the_type c.in-Lam.a) (the_term x)) (sym c.deref-in-Lam.ensures) in
    let h = body_ready (declared_scope c.args.declared.now) (the_context c.args.ctx.now) (the_term c.args.term.now) (the_type c.in-Lam.a) (the_term c.deref-in-Lam.result.now) c.args.args c.new-in-Lam.result c.requires c.new-in-Lam.ensures e in
    (omega (arith, c.decreases, h.1), h.0)

pub apply_in_turn-requires : goal.apply_in_turn-requires
apply_in_turn-requires t c =
    let scope = declared_scope c.args.declared.now in
    let ctx = the_context c.args.ctx.now in
    let e : the_term c.args.term.now ≡ lam (the_type c.in-Lam.a) (the_term c.deref-in-Lam.result.now) = ap the_term c.in-Lam.is ∙ ap (λ x. lam (the_type c.in-Lam.a) (the_term x)) (sym c.deref-in-Lam.ensures) in
    let f = function_is scope ctx (the_term c.args.term.now) (the_type c.in-Lam.a) (the_term c.deref-in-Lam.result.now) c.in_ok-body-in-Lam.body c.in_ok-function-in-Lam.function c.new-in-Lam.result c.new-in-Lam.ensures e c.in_ok-body-in-Lam.ensures c.in_ok-function-in-Lam.ensures in
    function_applies scope ctx (the_term c.args.term.now) c.in_ok-function-in-Lam.function c.args.args c.requires f
