use Rattle.std.proofs.Common.{[], ◌∙◌}
use Rattle.std.proofs.lemmas.Result.{IfOk-weaker}
use Rattle.stt_core.specs.View.{the_term}
use Rattle.normal_forms.specs.Normal.{normal_form}
use Rattle.term_bank.specs.Content.{content_scope}
use Rattle.term_bank.proofs.GrowLaws.{grown_scope, has_at, has_within}
use Rattle.finite_models.proofs.forms.form_of.Goals as goal

pub tree_of-requires : goal.tree_of-requires
tree_of-requires c =
    has_within c.normalise.new.bank c.in_ok-id.id (normal_form (content_scope c.args.bank.now) [] (the_term c.args.formula.now)) c.in_ok-id.ensures.term

pub returns-clause-form : goal.returns-clause-form
returns-clause-form c =
    IfOk-weaker c.tree_of.result _ _ (λ nf h. h ∙ has_at c.normalise.new.bank c.in_ok-id.id (normal_form (content_scope c.args.bank.now) [] (the_term c.args.formula.now)) c.in_ok-id.ensures.term) c.tree_of.ensures
