use Rattle.std.proofs.Common.{◌≡◌, ◌+◌, ◌<◌, Some, map, length, slice_get, refl, ap, sym, subst, ◌∙◌, arith}
use Rattle.std.proofs.lemmas.Bool.{eqb-true}
use Rattle.std.proofs.lemmas.List.{length-map}
use Rattle.stt_core.specs.Lambda.{bound, lam}
use Rattle.stt_core.specs.View.{the_type}
use Rattle.stt_core.proofs.ListLaws.{mapped_get}
use Rattle.normal_forms.specs.Normal.{eta}
use Rattle.term_bank.specs.Content.{content_scope}
use Rattle.term_bank.specs.Terms.{term_at, shape_term, IsBelow}
use Rattle.term_bank.specs.NodeView.{the_shape}
use Rattle.term_bank.proofs.GrowLaws.{grows_on, grown_at, has_at}
use Rattle.bank_normal.specs.Internal.Expanded.{IsFormOf}
use Rattle.bank_normal.proofs.NodeLaws.{within_at}
use Rattle.bank_normal.proofs.ExpandedLaws.{binder_neutral, form_within, form_before}
use Rattle.bank_normal.proofs.normaliser.Normaliser.is_form_of.Goals as goal

pub eta_variable-requires-clause-fits : goal.eta_variable-requires-clause-fits
eta_variable-requires-clause-fits c =
    let b = c.loop-at.bank in
    let shape = sym c.in_ok-node.ensures ∙ ap the_shape c.in-Lam.is in
    binder_neutral (content_scope b) (term_at b.terms c.loop-at.id) (the_type c.in-Lam.ty) (term_at b.terms c.in-Lam.inner) (c.node.ensures.term ∙ ap (shape_term b.terms) shape) c.node.ensures.typed

pub loop-at-preserved : goal.loop-at-preserved
loop-at-preserved c =
    let b = c.args.bank.now in
    let now = c.loop-at.bank in
    let new = c.eta_variable.new.bank in
    let i = c.loop-at.invariant in
    let e = c.in_ok-variable.ensures in
    let id = c.loop-at.id in
    let inner = c.in-Lam.inner in
    let args = c.args.args.now in
    let us = map (term_at b.terms) args in
    let at = c.loop-at.at in
    let arg = c.at-arg.result in
    let a = the_type c.in-Lam.ty in
    let shape = sym c.in_ok-node.ensures ∙ ap the_shape c.in-Lam.is in
    let below : inner < id = subst (IsBelow id) shape c.node.ensures.below in
    let grows = grows_on b now new i.1 e.grows in
    let term : term_at b.terms id ≡ lam a (term_at b.terms inner) =
    sym (grown_at b now id i.1 i.0) ∙ c.node.ensures.term ∙ ap (shape_term now.terms) shape ∙ ap (lam a) (grown_at b now inner i.1 (omega (arith, below, i.0))) in
    let count : c.in-Some.left + at + 1 ≡ length us =
    omega (arith, c.in-Some.ensures, c.len.ensures, c.loop-at-test.true, length-map args (term_at b.terms), c.len-at-end.ensures) in
    let same : c.in_ok-variable.variable ≡ arg = c.if-variable-arg.false in
    let variable : term_at b.terms arg ≡ eta a (bound c.in-Some.left) =
    sym (grown_at b new arg grows (within_at (length b.terms) args at arg c.requires.args c.at-arg.ensures)) ∙ ap (term_at new.terms) (sym same) ∙ has_at new c.in_ok-variable.variable (eta a (bound c.in-Some.left)) e.term in
    let slot : slice_get us at ≡ Some (eta a (bound c.in-Some.left)) = mapped_get (term_at b.terms) args at arg c.at-arg.ensures ∙ ap Some variable in (
      omega (arith, below, i.0),
      grows,
      e.right,
      λ h next. i.3 h (form_before (term_at b.terms id) h (term_at b.terms inner) a us at (at + 1) c.in-Some.left term slot count refl next),
    )

pub returns-clause-form : goal.returns-clause-form
returns-clause-form c = λ is h none whole.
    let b = c.args.bank.now in
    let us = map (term_at b.terms) c.args.args.now in
    let same : c.loop-at.id ≡ c.args.body = eqb-true c.loop-at.id c.args.body is in
    c.loop-at.invariant.3 h (subst (λ j. IsFormOf (term_at b.terms j) h us c.loop-at.at) (sym same) (form_within (term_at b.terms c.args.body) h us c.loop-at.at none whole (omega (arith, c.loop-at-test.false, c.loop-at.auto.at-end (omega (arith, c.requires.count, c.len-at-end.ensures)), c.len-at-end.ensures, length-map c.args.args.now (term_at b.terms)))))
