use Rattle.std.proofs.Common.{map, sym, subst, ◌∙◌}
use Rattle.stt_core.specs.ContextView.{the_context}
use Rattle.stt_core.specs.View.{the_term}
use Rattle.normal_forms.specs.Normal.{apply_each, normal_form}
use Rattle.normal_forms.specs.Internal.Applying.{IsApplicable}
use Rattle.term_bank.specs.Content.{content_scope, HasTerm}
use Rattle.term_bank.specs.Terms.{term_at}
use Rattle.bank_normal.proofs.FormLaws.{form_of_term, form_applies, form_made, leaf_stays}
use Rattle.bank_normal.proofs.normaliser.Normaliser.normal_leaf.Goals as goal

pub apply_all-requires-clause-f_within : goal.apply_all-requires-clause-f_within
apply_all-requires-clause-f_within c =
    (form_of_term c.args.bank.now c.args.forms.now (the_term c.args.term.now) c.in-Some.form c.requires.forms (sym c.id_of_term.ensures ∙ c.in-Some.is)).within

pub apply_all-requires-clause-fits : goal.apply_all-requires-clause-fits
apply_all-requires-clause-fits c =
    let b = c.args.bank.now in
    form_applies b (the_context c.args.ctx.now) c.args.forms.now (the_term c.args.term.now) (map (term_at b.terms) c.args.args) c.in-Some.form c.requires.forms (sym c.id_of_term.ensures ∙ c.in-Some.is) c.requires.fits

pub returns-in_ok-apply_all-in-Some-clause-term : goal.returns-in_ok-apply_all-in-Some-clause-term
returns-in_ok-apply_all-in-Some-clause-term c =
    let b = c.args.bank.now in
    form_made b (the_context c.args.ctx.now) c.args.forms.now (the_term c.args.term.now) (map (term_at b.terms) c.args.args) c.in-Some.form c.requires.forms (sym c.id_of_term.ensures ∙ c.in-Some.is) c.apply_all.new.bank c.in_ok-apply_all-in-Some.field-0 c.in_ok-apply_all-in-Some.ensures.term

pub normal_head-requires-clause-fits : goal.normal_head-requires-clause-fits
normal_head-requires-clause-fits c =
    let b = c.args.bank.now in
    subst (λ t. IsApplicable (content_scope b) (the_context c.args.ctx.now) t (map (term_at b.terms) c.args.args))
    (leaf_stays b.terms c.args.forms.now (the_term c.args.term.now) c.requires.leaf (sym c.id_of_term.ensures ∙ c.in-None.is))
    c.requires.fits

pub returns-in_ok-normal_head-in-None-clause-term : goal.returns-in_ok-normal_head-in-None-clause-term
returns-in_ok-normal_head-in-None-clause-term c =
    let b = c.args.bank.now in
    subst (λ t. HasTerm c.normal_head.new.bank c.in_ok-normal_head-in-None.field-0 (apply_each (normal_form (content_scope b) (the_context c.args.ctx.now) t) (map (term_at b.terms) c.args.args)))
    (sym (leaf_stays b.terms c.args.forms.now (the_term c.args.term.now) c.requires.leaf (sym c.id_of_term.ensures ∙ c.in-None.is)))
    c.in_ok-normal_head-in-None.ensures.term
