use Rattle.std.proofs.Common.{[], ◌∷◌, ◌++◌, ap, option_map, sym, subst, ◌∙◌}
use Rattle.stt_core.specs.View.{the_term}
use Rattle.sat_base.specs.Literal.{negated}
use Rattle.tableau_calculus.specs.Literals.{opposite}
use Rattle.term_bank.specs.Content.{content_scope}
use Rattle.bank_normal.specs.Forms.{forms_in}
use Rattle.problem_start.specs.Unfolds.{normal_literal_by, denied_by, AreStartNumbers}
use Rattle.problem_start.proofs.StartNumbers.{numbers_grown, numbers_push}
use Rattle.problem_start.proofs.start.with_denied.Goals as goal

pub returns-in_ok-push-in-Some-clause-numbers : goal.returns-in_ok-push-in-Some-clause-numbers
returns-in_ok-push-in-Some-clause-numbers c = λ ls h.
    let a = c.args.bank.now in
    let b = c.formula_literal_by.new.bank in
    let ys = c.formula_literal_by.new.lits in
    let w = c.in_ok-lit-in-Some.ensures in
    let scope = content_scope a in
    let ds = forms_in a.terms c.args.forms.now in
    let more = c.push.new.self.items in
    let kept = numbers_grown a b w.grows c.args.lits.now ys c.requires.atoms w.begins ls c.args.numbers.items h in
    subst (λ o. AreStartNumbers b ys (ls ++ denied_by scope ds o) more) (sym (ap (option_map the_term) c.in-Some.is))
    (numbers_push b ys ls c.args.numbers.items more (opposite (normal_literal_by scope ds (the_term c.in-Some.conjecture))) (negated c.in_ok-lit-in-Some.lit) kept w.number (ap opposite w.literal)
    (c.in_ok-push-in-Some.ensures.items ∙ ap (λ n. c.args.numbers.items ++ n ∷ []) c.negated.ensures))
