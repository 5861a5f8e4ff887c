use Rattle.std.proofs.lemmas.Result.{IfOk-from_err}
use Rattle.std.proofs.Common.{◌≡◌, map, sym, ap, subst, ◌∙◌, arith}
use Rattle.stt_core.specs.ContextView.{the_context}
use Rattle.stt_core.specs.Lambda.{lam, app, node_count}
use Rattle.stt_core.specs.View.{the_term, the_type}
use Rattle.normal_forms.specs.Normal.{apply_each, normal_form}
use Rattle.normal_forms.specs.Internal.Applying.{IsApplicable}
use Rattle.delta_defs.specs.Definitions.{unfolded}
use Rattle.term_bank.specs.Content.{content_scope, HasTerm}
use Rattle.term_bank.specs.Terms.{term_at}
use Rattle.term_bank.proofs.GrowLaws.{has_within, grows_on}
use Rattle.bank_normal.specs.Forms.{forms_in}
use Rattle.bank_normal.proofs.FormLaws.{forms_grown, are_forms_grown}
use Rattle.bank_normal.proofs.RightLaws.{right_grown}
use Rattle.bank_normal.proofs.NormalLaws.{none_within, argument_fits, pushed_within, function_fits, function_made, body_fits, lam_typed, all_apply, all_made}
use Rattle.bank_normal.proofs.normaliser.Normaliser.+normal_applied.Goals as goal

pub normal_applied-requires : goal.normal_applied-requires
normal_applied-requires t c =
    let b = c.args.bank.now in
    let ds = forms_in b.terms c.args.forms.now in
    let e : the_term c.args.term.now ≡ app (the_term c.in-App.function.value) (the_term c.deref.result.now) = ap the_term c.in-App.is ∙ ap (λ x. app (the_term c.in-App.function.value) (the_term x)) (sym c.deref.ensures) in
    let h = argument_fits b (the_context c.args.ctx.now) (unfolded ds (the_term c.args.term.now)) (unfolded ds (the_term c.in-App.function.value)) (unfolded ds (the_term c.deref.result.now)) (map (term_at b.terms) c.args.args) c.new-none.result c.new-none.ensures c.requires.fits (ap (unfolded ds) e) in
    (omega (arith, c.decreases, ap node_count e), (none_within b c.new-none.result c.new-none.ensures, (c.requires.forms, (h.0, c.requires.right))))

pub normal_applied-requires-in-App : goal.normal_applied-requires-in-App
normal_applied-requires-in-App t c =
    let b = c.args.bank.now in
    let d = c.normal_applied.new.bank in
    let ds = forms_in b.terms c.args.forms.now in
    let v = c.in_ok-argument-in-App.ensures in
    let ctx = the_context c.args.ctx.now in
    let s = the_term c.deref-in-App.result.now in
    let u = the_term c.deref.result.now in
    let e : the_term c.args.term.now ≡ app s u = ap the_term c.in-App.is ∙ ap (λ x. app (the_term x) (the_term c.in-App.argument.value)) (sym c.deref-in-App.ensures) ∙ ap (λ x. app (the_term c.deref-in-App.result.now) (the_term x)) (sym c.deref.ensures) in
    let h = function_fits b d ctx (unfolded ds (the_term c.args.term.now)) (unfolded ds s) (unfolded ds u) c.args.args c.new-none.result c.push_front.new.self c.in_ok-argument-in-App.argument v.grows c.requires.within c.requires.fits (ap (unfolded ds) e) c.new-none.ensures v.term c.in_ok-push_front-in-App.ensures.ok in
    let w = pushed_within b d ctx (unfolded ds (the_term c.args.term.now)) (unfolded ds s) (unfolded ds u) c.args.args c.new-none.result c.push_front.new.self c.in_ok-argument-in-App.argument v.grows c.requires.within c.requires.fits (ap (unfolded ds) e) c.new-none.ensures v.term c.in_ok-push_front-in-App.ensures.ok in
    let fits = subst (λ es. IsApplicable (content_scope d) ctx (unfolded es s) (map (term_at d.terms) c.push_front.new.self)) (sym (forms_grown b d c.args.forms.now v.grows c.requires.forms)) h.0 in
    (omega (arith, c.decreases, ap node_count e), (w, (are_forms_grown b d c.args.forms.now v.grows c.requires.forms, (fits, v.right))))

pub returns-in_ok-normal_applied-in-App-clause-term : goal.returns-in_ok-normal_applied-in-App-clause-term
returns-in_ok-normal_applied-in-App-clause-term t c =
    let b = c.args.bank.now in
    let d = c.normal_applied.new.bank in
    let ds = forms_in b.terms c.args.forms.now in
    let v = c.in_ok-argument-in-App.ensures in
    let ctx = the_context c.args.ctx.now in
    let s = the_term c.deref-in-App.result.now in
    let u = the_term c.deref.result.now in
    let e : the_term c.args.term.now ≡ app s u = ap the_term c.in-App.is ∙ ap (λ x. app (the_term x) (the_term c.in-App.argument.value)) (sym c.deref-in-App.ensures) ∙ ap (λ x. app (the_term c.deref-in-App.result.now) (the_term x)) (sym c.deref.ensures) in
    let has = subst (λ es. HasTerm c.normal_applied-in-App.new.bank c.in_ok-normal_applied-in-App.field-0 (apply_each (normal_form (content_scope d) ctx (unfolded es s)) (map (term_at d.terms) c.push_front.new.self))) (forms_grown b d c.args.forms.now v.grows c.requires.forms) c.in_ok-normal_applied-in-App.ensures.term in
    function_made b d ctx (unfolded ds (the_term c.args.term.now)) (unfolded ds s) (unfolded ds u) c.args.args c.new-none.result c.push_front.new.self c.in_ok-argument-in-App.argument v.grows c.requires.within c.requires.fits (ap (unfolded ds) e) c.new-none.ensures v.term c.in_ok-push_front-in-App.ensures.ok c.normal_applied-in-App.new.bank c.in_ok-normal_applied-in-App.field-0 has

pub normal_applied-requires-in-Lam : goal.normal_applied-requires-in-Lam
normal_applied-requires-in-Lam t c =
    let b = c.args.bank.now in
    let ds = forms_in b.terms c.args.forms.now in
    let e : the_term c.args.term.now ≡ lam (the_type c.in-Lam.a) (the_term c.deref-in-Lam.result.now) = ap the_term c.in-Lam.is ∙ ap (λ x. lam (the_type c.in-Lam.a) (the_term x)) (sym c.deref-in-Lam.ensures) in
    let h = body_fits b (the_context c.args.ctx.now) (unfolded ds (the_term c.args.term.now)) (the_type c.in-Lam.a) (unfolded ds (the_term c.deref-in-Lam.result.now)) (map (term_at b.terms) c.args.args) c.new-none-in-Lam.result c.new-none-in-Lam.ensures c.requires.fits (ap (unfolded ds) e) in
    (omega (arith, c.decreases, ap node_count e), (none_within b c.new-none-in-Lam.result c.new-none-in-Lam.ensures, (c.requires.forms, (h.0, c.requires.right))))

pub intern_lam-requires-clause-within : goal.intern_lam-requires-clause-within
intern_lam-requires-clause-within t c = has_within c.normal_applied-in-Lam.new.bank c.in_ok-body-in-Lam.body _ c.in_ok-body-in-Lam.ensures.term

pub intern_lam-requires-clause-typed : goal.intern_lam-requires-clause-typed
intern_lam-requires-clause-typed t c =
    let b = c.args.bank.now in
    let ds = forms_in b.terms c.args.forms.now in
    let v = c.in_ok-body-in-Lam.ensures in
    let e : the_term c.args.term.now ≡ lam (the_type c.in-Lam.a) (the_term c.deref-in-Lam.result.now) = ap the_term c.in-Lam.is ∙ ap (λ x. lam (the_type c.in-Lam.a) (the_term x)) (sym c.deref-in-Lam.ensures) in
    lam_typed b c.normal_applied-in-Lam.new.bank (the_context c.args.ctx.now) (unfolded ds (the_term c.args.term.now)) (the_type c.in-Lam.a) (unfolded ds (the_term c.deref-in-Lam.result.now)) c.args.args c.new-none-in-Lam.result c.in_ok-body-in-Lam.body v.grows c.requires.fits (ap (unfolded ds) e) c.new-none-in-Lam.ensures v.term

pub apply_all-requires-clause-f_within : goal.apply_all-requires-clause-f_within
apply_all-requires-clause-f_within t c = has_within c.intern_lam.new.self c.in_ok-function-in-Lam.function _ c.in_ok-function-in-Lam.ensures.term

pub apply_all-requires-clause-fits : goal.apply_all-requires-clause-fits
apply_all-requires-clause-fits t c =
    let b = c.args.bank.now in
    let ds = forms_in b.terms c.args.forms.now in
    let v = c.in_ok-body-in-Lam.ensures in
    let f = c.in_ok-function-in-Lam.ensures in
    let e : the_term c.args.term.now ≡ lam (the_type c.in-Lam.a) (the_term c.deref-in-Lam.result.now) = ap the_term c.in-Lam.is ∙ ap (λ x. lam (the_type c.in-Lam.a) (the_term x)) (sym c.deref-in-Lam.ensures) in
    all_apply b c.normal_applied-in-Lam.new.bank (the_context c.args.ctx.now) (unfolded ds (the_term c.args.term.now)) (the_type c.in-Lam.a) (unfolded ds (the_term c.deref-in-Lam.result.now)) c.args.args c.new-none-in-Lam.result c.in_ok-body-in-Lam.body v.grows c.requires.fits (ap (unfolded ds) e) c.new-none-in-Lam.ensures v.term c.intern_lam.new.self c.in_ok-function-in-Lam.function f.grows c.requires.within f.term

pub apply_all-requires-clause-right : goal.apply_all-requires-clause-right
apply_all-requires-clause-right t c = right_grown c.normal_applied-in-Lam.new.self c.normal_applied-in-Lam.new.bank c.intern_lam.new.self c.in_ok-function-in-Lam.ensures.grows c.in_ok-body-in-Lam.ensures.right

pub returns-in_ok-apply_all-in-Lam-clause-term : goal.returns-in_ok-apply_all-in-Lam-clause-term
returns-in_ok-apply_all-in-Lam-clause-term t c =
    let b = c.args.bank.now in
    let ds = forms_in b.terms c.args.forms.now in
    let v = c.in_ok-body-in-Lam.ensures in
    let f = c.in_ok-function-in-Lam.ensures in
    let e : the_term c.args.term.now ≡ lam (the_type c.in-Lam.a) (the_term c.deref-in-Lam.result.now) = ap the_term c.in-Lam.is ∙ ap (λ x. lam (the_type c.in-Lam.a) (the_term x)) (sym c.deref-in-Lam.ensures) in
    all_made b c.normal_applied-in-Lam.new.bank (the_context c.args.ctx.now) (unfolded ds (the_term c.args.term.now)) (the_type c.in-Lam.a) (unfolded ds (the_term c.deref-in-Lam.result.now)) c.args.args c.new-none-in-Lam.result c.in_ok-body-in-Lam.body v.grows c.requires.fits (ap (unfolded ds) e) c.new-none-in-Lam.ensures v.term c.intern_lam.new.self c.in_ok-function-in-Lam.function f.grows c.requires.within f.term c.apply_all.new.bank c.in_ok-apply_all-in-Lam.field-0 c.in_ok-apply_all-in-Lam.ensures.term

pub returns-in_err-argument-in-App-clause-term : goal.returns-in_err-argument-in-App-clause-term
returns-in_err-argument-in-App-clause-term t c = IfOk-from_err c.from_residual.result _ c.from_residual.ensures.0

pub returns-in_err-argument-in-App-clause-grows : goal.returns-in_err-argument-in-App-clause-grows
returns-in_err-argument-in-App-clause-grows t c = c.in_err-argument-in-App.ensures.grows

pub returns-in_err-argument-in-App-clause-right : goal.returns-in_err-argument-in-App-clause-right
returns-in_err-argument-in-App-clause-right t c = c.in_err-argument-in-App.ensures.right

pub returns-in_err-push_front-in-App-clause-term : goal.returns-in_err-push_front-in-App-clause-term
returns-in_err-push_front-in-App-clause-term t c = IfOk-from_err c.from_residual-in_err-push_front-in-App.result _ c.from_residual-in_err-push_front-in-App.ensures.0

pub returns-in_err-push_front-in-App-clause-grows : goal.returns-in_err-push_front-in-App-clause-grows
returns-in_err-push_front-in-App-clause-grows t c = c.in_ok-argument-in-App.ensures.grows

pub returns-in_err-push_front-in-App-clause-right : goal.returns-in_err-push_front-in-App-clause-right
returns-in_err-push_front-in-App-clause-right t c = c.in_ok-argument-in-App.ensures.right

pub returns-in_err-normal_applied-in-App-clause-term : goal.returns-in_err-normal_applied-in-App-clause-term
returns-in_err-normal_applied-in-App-clause-term t c = IfOk-from_err c.from_residual-in_err-normal_applied-in-App.result _ c.from_residual-in_err-normal_applied-in-App.ensures.0

pub returns-in_err-normal_applied-in-App-clause-grows : goal.returns-in_err-normal_applied-in-App-clause-grows
returns-in_err-normal_applied-in-App-clause-grows t c = grows_on c.args.bank.now c.normal_applied.new.bank c.normal_applied-in-App.new.bank c.in_ok-argument-in-App.ensures.grows c.in_err-normal_applied-in-App.ensures.grows

pub returns-in_err-normal_applied-in-App-clause-right : goal.returns-in_err-normal_applied-in-App-clause-right
returns-in_err-normal_applied-in-App-clause-right t c = c.in_err-normal_applied-in-App.ensures.right

pub returns-in_err-body-in-Lam-clause-term : goal.returns-in_err-body-in-Lam-clause-term
returns-in_err-body-in-Lam-clause-term t c = IfOk-from_err c.from_residual-in_err-body-in-Lam.result _ c.from_residual-in_err-body-in-Lam.ensures.0

pub returns-in_err-body-in-Lam-clause-grows : goal.returns-in_err-body-in-Lam-clause-grows
returns-in_err-body-in-Lam-clause-grows t c = c.in_err-body-in-Lam.ensures.grows

pub returns-in_err-body-in-Lam-clause-right : goal.returns-in_err-body-in-Lam-clause-right
returns-in_err-body-in-Lam-clause-right t c = c.in_err-body-in-Lam.ensures.right

pub returns-in_err-function-in-Lam-clause-term : goal.returns-in_err-function-in-Lam-clause-term
returns-in_err-function-in-Lam-clause-term t c = IfOk-from_err c.from_residual-in_err-function-in-Lam.result _ c.from_residual-in_err-function-in-Lam.ensures.0

pub returns-in_err-function-in-Lam-clause-grows : goal.returns-in_err-function-in-Lam-clause-grows
returns-in_err-function-in-Lam-clause-grows t c = grows_on c.args.bank.now c.normal_applied-in-Lam.new.bank c.intern_lam.new.self c.in_ok-body-in-Lam.ensures.grows c.in_err-function-in-Lam.ensures.grows

pub returns-in_err-function-in-Lam-clause-right : goal.returns-in_err-function-in-Lam-clause-right
returns-in_err-function-in-Lam-clause-right t c = right_grown c.normal_applied-in-Lam.new.self c.normal_applied-in-Lam.new.bank c.intern_lam.new.self c.in_err-function-in-Lam.ensures.grows c.in_ok-body-in-Lam.ensures.right

pub returns-in_err-apply_all-in-Lam-clause-term : goal.returns-in_err-apply_all-in-Lam-clause-term
returns-in_err-apply_all-in-Lam-clause-term t c = IfOk-from_err c.from_residual-in_err-apply_all-in-Lam.result _ c.from_residual-in_err-apply_all-in-Lam.ensures.0

pub returns-in_err-apply_all-in-Lam-clause-grows : goal.returns-in_err-apply_all-in-Lam-clause-grows
returns-in_err-apply_all-in-Lam-clause-grows t c = grows_on c.args.bank.now c.intern_lam.new.self c.apply_all.new.bank (grows_on c.args.bank.now c.normal_applied-in-Lam.new.bank c.intern_lam.new.self c.in_ok-body-in-Lam.ensures.grows c.in_ok-function-in-Lam.ensures.grows) c.in_err-apply_all-in-Lam.ensures.grows

pub returns-in_err-apply_all-in-Lam-clause-right : goal.returns-in_err-apply_all-in-Lam-clause-right
returns-in_err-apply_all-in-Lam-clause-right t c = c.in_err-apply_all-in-Lam.ensures.right

pub returns-in_ok-normal_applied-in-App-clause-grows : goal.returns-in_ok-normal_applied-in-App-clause-grows
returns-in_ok-normal_applied-in-App-clause-grows t c = grows_on c.args.bank.now c.normal_applied.new.bank c.normal_applied-in-App.new.bank c.in_ok-argument-in-App.ensures.grows c.in_ok-normal_applied-in-App.ensures.grows

pub returns-in_ok-normal_applied-in-App-clause-right : goal.returns-in_ok-normal_applied-in-App-clause-right
returns-in_ok-normal_applied-in-App-clause-right t c = c.in_ok-normal_applied-in-App.ensures.right

pub returns-in_ok-apply_all-in-Lam-clause-grows : goal.returns-in_ok-apply_all-in-Lam-clause-grows
returns-in_ok-apply_all-in-Lam-clause-grows t c = grows_on c.args.bank.now c.intern_lam.new.self c.apply_all.new.bank (grows_on c.args.bank.now c.normal_applied-in-Lam.new.bank c.intern_lam.new.self c.in_ok-body-in-Lam.ensures.grows c.in_ok-function-in-Lam.ensures.grows) c.in_ok-apply_all-in-Lam.ensures.grows

pub returns-in_ok-apply_all-in-Lam-clause-right : goal.returns-in_ok-apply_all-in-Lam-clause-right
returns-in_ok-apply_all-in-Lam-clause-right t c = c.in_ok-apply_all-in-Lam.ensures.right
