use Rattle.std.proofs.Common.{map, option_map, ap, subst, ◌∙◌}
use Rattle.stt_core.specs.View.{the_term}
use Rattle.stt_core.specs.PlainProblem.{PlainProblem}
use Rattle.term_bank.specs.Content.{content_scope}
use Rattle.term_bank.proofs.GrowLaws.{grown_scope}
use Rattle.bank_normal.specs.Forms.{forms_in}
use Rattle.bank_normal.proofs.FormLaws.{are_forms_grown}
use Rattle.problem_start.specs.Unfolds.{normal_literal_by, formulas_at, AreStartNumbers}
use Rattle.problem_start.proofs.StartNumbers.{whole_start}
use Rattle.problem_start.proofs.start.start_numbers.Goals as goal

pub with_denied-requires-clause-forms : goal.with_denied-requires-clause-forms
with_denied-requires-clause-forms c = are_forms_grown c.unfolding_of.new.bank c.numbers_at.new.bank c.in_ok-walk.walk.forms c.in_ok-numbers.ensures.grows c.in_ok-walk.ensures.definitions.forms

pub returns-clause-numbers : goal.returns-clause-numbers
returns-clause-numbers c =
    let p = c.args.problem.now in
    let u = c.unfolding_of.new.bank in
    let m = c.numbers_at.new.bank in
    let fs = c.in_ok-walk.walk.forms in
    let w = c.in_ok-walk.ensures in
    let places = c.as_slice-places.result.now in
    let ts = formulas_at c.problem.inside.assumed places in
    let scope = grown_scope c.args.bank.now u w.grows ∙ c.requires.scope in
    let left = ap (λ (q : PlainProblem). formulas_at q.assumed places) c.problem.view_is ∙ ap (formulas_at p.assumed) c.as_slice-places.ensures.value ∙ w.left.formulas in
    let conjecture = ap (λ (q : PlainProblem). q.conjecture) c.problem.view_is in
    subst (λ ls. AreStartNumbers c.with_denied.new.bank c.with_denied.new.lits ls c.in_ok-with_denied.field-0.items)
    (whole_start c.args.unfolds p u m fs ts (option_map the_term c.problem.inside.conjecture) scope c.in_ok-numbers.ensures.grows w.definitions.forms w.definitions.definitions w.definitions.typed left conjecture)
    (c.in_ok-with_denied.ensures.numbers (map (normal_literal_by (content_scope u) (forms_in u.terms fs)) ts) c.in_ok-numbers.ensures.numbers)
