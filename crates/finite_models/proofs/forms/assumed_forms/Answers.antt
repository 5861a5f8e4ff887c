use Rattle.std.proofs.Common.{[], ap, sym, subst, ◌∙◌}
use Rattle.stt_core.specs.View.{the_term}
use Rattle.stt_core.specs.TypedProblem.{IsFormula}
use Rattle.stt_core.proofs.ListLaws.{map_more}
use Rattle.normal_forms.specs.Normal.{normal_form}
use Rattle.term_bank.specs.Content.{content_scope}
use Rattle.finite_models.proofs.GlueLaws.{formula_at}
use Rattle.finite_models.proofs.forms.assumed_forms.Goals as goal

pub form_of-requires-clause-formula : goal.form_of-requires-clause-formula
form_of-requires-clause-formula c =
    subst (λ s. IsFormula s (the_term c.at.result.now)) (sym c.loop-i.invariant.scope)
    (formula_at (content_scope c.args.bank.now) c.args.assumed.now c.requires.assumed c.loop-i.i (the_term c.at.result.now) c.at.ensures)

pub loop-i-preserved : goal.loop-i-preserved
loop-i-preserved c = record {
  scope = c.in_ok-form.ensures.scope ∙ c.loop-i.invariant.scope;
  right = c.in_ok-form.ensures.right;
  forms =
      map_more (normal_form (content_scope c.args.bank.now) []) c.args.assumed.now c.loop-i.i (the_term c.at.result.now) c.loop-i.forms c.push.new.self c.in_ok-form.form c.at.ensures c.loop-i.invariant.forms
      (c.in_ok-form.ensures.form ∙ ap (λ s. normal_form s [] (the_term c.at.result.now)) c.loop-i.invariant.scope) c.in_ok-push.ensures.ok;
}
