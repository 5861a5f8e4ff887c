use Rattle.std.proofs.Common.{◌∷◌, [], map, take, ap, sym, subst, ◌∙◌, arith}
use Rattle.std.proofs.lemmas.List.{map-append}
use Rattle.std.proofs.lemmas.Option.{slice_get-get_or}
use Rattle.stt_core.specs.TypedProblem.{IsFormula}
use Rattle.stt_core.specs.View.{the_term}
use Rattle.tableau_calculus.proofs.StartLaws.{formula_at}
use Rattle.term_bank.specs.Content.{content_scope}
use Rattle.term_bank.proofs.GrowLaws.{grows_on, grown_scope}
use Rattle.bank_normal.specs.Forms.{forms_in}
use Rattle.bank_normal.proofs.FormLaws.{are_forms_grown}
use Rattle.problem_start.specs.Unfolds.{normal_literal_by, formulas_at, AreStartNumbers}
use Rattle.problem_start.proofs.StartNumbers.{begins_on, numbers_grown, numbers_push, literal_grown, formulas_more}
use Rattle.problem_start.proofs.start.numbers_at.Goals as goal

pub formula_literal_by-requires-clause-formula : goal.formula_literal_by-requires-clause-formula
formula_literal_by-requires-clause-formula c =
    let t = the_term c.at-formula.result.now in
    subst (λ s. IsFormula s t) (sym (grown_scope c.args.bank.now c.loop-j.bank c.loop-j.invariant.grows))
    (formula_at (content_scope c.args.bank.now) c.args.formulas.now _ t c.at-formula.ensures c.requires.formulas)

pub formula_literal_by-requires-clause-forms : goal.formula_literal_by-requires-clause-forms
formula_literal_by-requires-clause-forms c = are_forms_grown c.args.bank.now c.loop-j.bank c.args.forms.now c.loop-j.invariant.grows c.requires.forms

pub returns-in_err-lit-clause-grows : goal.returns-in_err-lit-clause-grows
returns-in_err-lit-clause-grows c = grows_on c.args.bank.now c.loop-j.bank c.formula_literal_by.new.bank c.loop-j.invariant.grows c.formula_literal_by.ensures.grows

pub returns-in_err-lit-clause-begins : goal.returns-in_err-lit-clause-begins
returns-in_err-lit-clause-begins c = begins_on c.args.lits.now c.loop-j.lits c.formula_literal_by.new.lits c.loop-j.invariant.begins c.formula_literal_by.ensures.begins

pub returns-in_err-push-clause-grows : goal.returns-in_err-push-clause-grows
returns-in_err-push-clause-grows c = grows_on c.args.bank.now c.loop-j.bank c.formula_literal_by.new.bank c.loop-j.invariant.grows c.formula_literal_by.ensures.grows

pub returns-in_err-push-clause-begins : goal.returns-in_err-push-clause-begins
returns-in_err-push-clause-begins c = begins_on c.args.lits.now c.loop-j.lits c.formula_literal_by.new.lits c.loop-j.invariant.begins c.formula_literal_by.ensures.begins

pub loop-j-preserved : goal.loop-j-preserved
loop-j-preserved c =
    let a = c.args.bank.now in
    let m = c.loop-j.bank in
    let b = c.formula_literal_by.new.bank in
    let xs = c.loop-j.lits in
    let ys = c.formula_literal_by.new.lits in
    let v = c.loop-j.invariant in
    let w = c.in_ok-lit.ensures in
    let places = c.args.places.now in
    let j = c.loop-j.j in
    let ts = c.args.formulas.now in
    let t = the_term c.at-formula.result.now in
    let f = normal_literal_by (content_scope a) (forms_in a.terms c.args.forms.now) in
    let done = formulas_at ts (take j places) in
    let ns = c.loop-j.numbers.items in
    let more = c.push.new.self.items in
    let kept = numbers_grown m b w.grows xs ys v.atoms w.begins (map f done) ns v.numbers in
    let pushed = numbers_push b ys (map f done) ns more (f t) c.in_ok-lit.lit kept w.number (w.literal ∙ literal_grown a m v.grows c.args.forms.now c.requires.forms t) c.in_ok-push.ensures.items in
    let at = formulas_more ts places j _ t (slice_get-get_or places j 0 (omega (arith, c.loop-j-test.true))) c.at-formula.ensures in
    record {
      grows = grows_on a m b v.grows w.grows;
      right = w.right;
      begins = begins_on c.args.lits.now xs ys v.begins w.begins;
      atoms = w.atoms;
      numbers = subst (λ ls. AreStartNumbers b ys ls more) (sym (ap (map f) at ∙ map-append f done (t ∷ []))) pushed;
    }
