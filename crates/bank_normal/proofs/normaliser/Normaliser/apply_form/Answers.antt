use Rattle.std.proofs.lemmas.Result.{IfOk-from_err}
use Rattle.term_bank.proofs.GrowLaws.{grows_itself, grows_on}
use Rattle.std.proofs.Common.{◌≡◌, ◌+◌, ◌<◌, map, length, ap, sym, subst, ◌∙◌, arith}
use Rattle.std.specs.Prelude.{All}
use Rattle.stt_core.specs.Lambda.{applied}
use Rattle.stt_core.specs.View.{the_head}
use Rattle.stt_core.specs.SimpleType.{base}
use Rattle.stt_core.proofs.HeadLaws.{atom_head}
use Rattle.term_bank.specs.Content.{content_scope, HasTerm}
use Rattle.term_bank.specs.Terms.{term_at, IsTypedTerm}
use Rattle.bank_normal.specs.Internal.Expanded.{binder_types}
use Rattle.bank_normal.proofs.RightLaws.{right_grown}
use Rattle.bank_normal.proofs.ExpandedLaws.{no_binders, form_within_bank, form_ready, form_made}
use Rattle.bank_normal.proofs.normaliser.Normaliser.apply_form.Goals as goal

pub intern_app-requires-clause-within : goal.intern_app-requires-clause-within
intern_app-requires-clause-within c =
    let b = c.args.bank.now in
    let new = c.is_form_of.new.bank in
    let e = c.in_ok-is_form.ensures in
    let h = the_head c.args.head in
    let us = map (term_at b.terms) c.args.inner.now in
    let none : binder_types (term_at b.terms c.args.body) ≡ base 0 = ap binder_types c.requires.body ∙ no_binders h us (atom_head c.args.head) in
    let form = e.form c.if-not-is_form.false h none c.requires.body in
    let count : c.in-Some.given + c.in-Some-fitting.by ≡ length c.args.inner.now = omega (arith, c.in-Some.ensures, c.in-Some-fitting.ensures, c.len.ensures, c.len-2.ensures, c.len-3.ensures) in
    let many : length c.args.args.now ≡ c.in-Some-fitting.by = omega (arith, c.in-Some-fitting.ensures, c.len-3.ensures) in
    let closed = c.are_closed.ensures c.in-Some-fitting.by c.if-not-are_closed.false in
    subst (All (λ j. j < length new.terms)) (sym c.as_slice.ensures)
    (form_within_bank b new c.args.f c.args.inner.now c.args.args.now c.in_ok-all.all h (the_head c.in-Some-lowered.lower) c.in-Some-fitting.by c.in-Some.given e.grows form c.in-Some-lowered.ensures closed count many c.requires.inner c.requires.within c.in_ok-all.ensures c.requires.fits)

pub intern_app-requires-clause-typed : goal.intern_app-requires-clause-typed
intern_app-requires-clause-typed c =
    let b = c.args.bank.now in
    let new = c.is_form_of.new.bank in
    let e = c.in_ok-is_form.ensures in
    let h = the_head c.args.head in
    let us = map (term_at b.terms) c.args.inner.now in
    let none : binder_types (term_at b.terms c.args.body) ≡ base 0 = ap binder_types c.requires.body ∙ no_binders h us (atom_head c.args.head) in
    let form = e.form c.if-not-is_form.false h none c.requires.body in
    let count : c.in-Some.given + c.in-Some-fitting.by ≡ length c.args.inner.now = omega (arith, c.in-Some.ensures, c.in-Some-fitting.ensures, c.len.ensures, c.len-2.ensures, c.len-3.ensures) in
    let many : length c.args.args.now ≡ c.in-Some-fitting.by = omega (arith, c.in-Some-fitting.ensures, c.len-3.ensures) in
    let closed = c.are_closed.ensures c.in-Some-fitting.by c.if-not-are_closed.false in
    subst (λ ids. IsTypedTerm (content_scope new) (applied (the_head c.in-Some-lowered.lower) (map (term_at new.terms) ids))) (sym c.as_slice.ensures)
    (form_ready b new c.args.f c.args.inner.now c.args.args.now c.in_ok-all.all h (the_head c.in-Some-lowered.lower) c.in-Some-fitting.by c.in-Some.given e.grows form c.in-Some-lowered.ensures closed count many c.requires.inner c.requires.within c.in_ok-all.ensures c.requires.fits)

pub returns-clause-term : goal.returns-clause-term
returns-clause-term c =
    let b = c.args.bank.now in
    let new = c.is_form_of.new.bank in
    let made = c.intern_app.new.self in
    let e = c.in_ok-is_form.ensures in
    let h = the_head c.args.head in
    let us = map (term_at b.terms) c.args.inner.now in
    let none : binder_types (term_at b.terms c.args.body) ≡ base 0 = ap binder_types c.requires.body ∙ no_binders h us (atom_head c.args.head) in
    let form = e.form c.if-not-is_form.false h none c.requires.body in
    let count : c.in-Some.given + c.in-Some-fitting.by ≡ length c.args.inner.now = omega (arith, c.in-Some.ensures, c.in-Some-fitting.ensures, c.len.ensures, c.len-2.ensures, c.len-3.ensures) in
    let many : length c.args.args.now ≡ c.in-Some-fitting.by = omega (arith, c.in-Some-fitting.ensures, c.len-3.ensures) in
    let closed = c.are_closed.ensures c.in-Some-fitting.by c.if-not-are_closed.false in
    form_made b new c.args.f c.args.inner.now c.args.args.now c.in_ok-all.all h (the_head c.in-Some-lowered.lower) c.in-Some-fitting.by c.in-Some.given e.grows form c.in-Some-lowered.ensures closed count many c.requires.inner c.requires.within c.in_ok-all.ensures c.requires.fits
    made c.in_ok-intern_app.field-0
    (subst (λ ids. HasTerm made c.in_ok-intern_app.field-0 (applied (the_head c.in-Some-lowered.lower) (map (term_at new.terms) ids))) c.as_slice.ensures c.in_ok-intern_app.ensures.term)

pub returns-clause-right : goal.returns-clause-right
returns-clause-right c = right_grown c.is_form_of.new.self c.is_form_of.new.bank c.intern_app.new.self c.in_ok-intern_app.ensures.grows c.in_ok-is_form.ensures.right

pub returns-in_default-clause-grows : goal.returns-in_default-clause-grows
returns-in_default-clause-grows c = grows_itself c.args.bank.now

pub returns-in_default-clause-right : goal.returns-in_default-clause-right
returns-in_default-clause-right c = c.requires.right

pub returns-in_default-fitting-clause-grows : goal.returns-in_default-fitting-clause-grows
returns-in_default-fitting-clause-grows c = grows_itself c.args.bank.now

pub returns-in_default-fitting-clause-right : goal.returns-in_default-fitting-clause-right
returns-in_default-fitting-clause-right c = c.requires.right

pub returns-in_default-lowered-clause-grows : goal.returns-in_default-lowered-clause-grows
returns-in_default-lowered-clause-grows c = grows_itself c.args.bank.now

pub returns-in_default-lowered-clause-right : goal.returns-in_default-lowered-clause-right
returns-in_default-lowered-clause-right c = c.requires.right

pub returns-then-not-are_closed-clause-grows : goal.returns-then-not-are_closed-clause-grows
returns-then-not-are_closed-clause-grows c = grows_itself c.args.bank.now

pub returns-then-not-are_closed-clause-right : goal.returns-then-not-are_closed-clause-right
returns-then-not-are_closed-clause-right c = c.requires.right

pub returns-in_err-is_form-clause-term : goal.returns-in_err-is_form-clause-term
returns-in_err-is_form-clause-term c = IfOk-from_err c.from_residual.result _ c.from_residual.ensures.0

pub returns-in_err-is_form-clause-grows : goal.returns-in_err-is_form-clause-grows
returns-in_err-is_form-clause-grows c = c.in_err-is_form.ensures.grows

pub returns-in_err-is_form-clause-right : goal.returns-in_err-is_form-clause-right
returns-in_err-is_form-clause-right c = c.in_err-is_form.ensures.right

pub returns-then-not-is_form-clause-grows : goal.returns-then-not-is_form-clause-grows
returns-then-not-is_form-clause-grows c = c.in_ok-is_form.ensures.grows

pub returns-then-not-is_form-clause-right : goal.returns-then-not-is_form-clause-right
returns-then-not-is_form-clause-right c = c.in_ok-is_form.ensures.right

pub returns-in_err-all-clause-term : goal.returns-in_err-all-clause-term
returns-in_err-all-clause-term c = IfOk-from_err c.from_residual-in_err-all.result _ c.from_residual-in_err-all.ensures.0

pub returns-in_err-all-clause-grows : goal.returns-in_err-all-clause-grows
returns-in_err-all-clause-grows c = c.in_ok-is_form.ensures.grows

pub returns-in_err-all-clause-right : goal.returns-in_err-all-clause-right
returns-in_err-all-clause-right c = c.in_ok-is_form.ensures.right

pub returns-in_err-intern_app-clause-term : goal.returns-in_err-intern_app-clause-term
returns-in_err-intern_app-clause-term c = IfOk-from_err c.from_residual-in_err-intern_app.result _ c.from_residual-in_err-intern_app.ensures.0

pub returns-in_err-intern_app-clause-grows : goal.returns-in_err-intern_app-clause-grows
returns-in_err-intern_app-clause-grows c = grows_on c.args.bank.now c.is_form_of.new.bank c.intern_app.new.self c.in_ok-is_form.ensures.grows c.in_err-intern_app.ensures.grows

pub returns-in_err-intern_app-clause-right : goal.returns-in_err-intern_app-clause-right
returns-in_err-intern_app-clause-right c = right_grown c.is_form_of.new.self c.is_form_of.new.bank c.intern_app.new.self c.in_err-intern_app.ensures.grows c.in_ok-is_form.ensures.right

pub returns-clause-grows : goal.returns-clause-grows
returns-clause-grows c = grows_on c.args.bank.now c.is_form_of.new.bank c.intern_app.new.self c.in_ok-is_form.ensures.grows c.in_ok-intern_app.ensures.grows
