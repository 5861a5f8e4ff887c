use Rattle.std.proofs.Common.{[], ap, sym, ◌∙◌, option_map, map}
use Rattle.stt_core.specs.View.{the_term}
use Rattle.stt_core.specs.PlainProblem.{PlainProblem}
use Rattle.stt_core.specs.Declarations.{scope_of}
use Rattle.normal_forms.specs.Normal.{normal_form}
use Rattle.finite_models.specs.Symbols.{normal_formulas}
use Rattle.finite_models.proofs.LookLaws.{forms_some}
use Rattle.finite_models.proofs.forms.forms_over.Goals as goal

pub returns-in_ok-push-in-Some : goal.returns-in_ok-push-in-Some
returns-in_ok-push-in-Some c =
    let i = c.problem.inside in
    let p : PlainProblem = record { declared = record { bases = i.signature.bases; consts = i.signature.consts }; assumed = i.assumed; marked = i.marked; conjecture = option_map the_term i.conjecture } in
    let over = c.requires.scope ∙ ap (λ (q : PlainProblem). scope_of q.declared) (sym c.problem.view_is) in
    forms_some p (the_term c.in-Some.conjecture) c.in_ok-form-in-Some.form c.in_ok-forms.forms c.push.new.self
    (ap (option_map the_term) c.in-Some.is)
    (c.in_ok-forms.ensures.forms ∙ ap (λ s. map (normal_form s []) i.assumed) over)
    (c.in_ok-form-in-Some.ensures.form ∙ ap (λ s. normal_form s [] (the_term c.in-Some.conjecture)) (c.in_ok-forms.ensures.scope ∙ over))
    c.in_ok-push-in-Some.ensures.ok
    ∙ ap normal_formulas c.problem.view_is
