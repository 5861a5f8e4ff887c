use Rattle.std.proofs.Common.{ap, ◌∙◌, []}
use Rattle.stt_core.specs.View.{the_term}
use Rattle.delta_normal.specs.Forms.{normal_form_by}
use Rattle.bank_normal.specs.Forms.{forms_in}
use Rattle.tableau_calculus.specs.Literals.{as_literal}
use Rattle.term_bank.specs.Content.{content_scope}
use Rattle.term_bank.proofs.GrowLaws.{has_at, has_within}
use Rattle.problem_start.proofs.AtomLaws.{form-atom}
use Rattle.problem_start.proofs.formula.formula_atom_by.Goals as goal

pub atom_of-requires : goal.atom_of-requires
atom_of-requires c =
    let b = c.args.bank.now in
    has_within c.normalise_by.new.bank c.in_ok-id.id (normal_form_by (content_scope b) (forms_in b.terms c.args.forms.now) [] (the_term c.args.formula.now)) c.in_ok-id.ensures.term

pub returns-clause-literal : goal.returns-clause-literal
returns-clause-literal c =
    let b = c.args.bank.now in
    c.atom_of.ensures.literal ∙ ap as_literal (has_at c.normalise_by.new.bank c.in_ok-id.id (normal_form_by (content_scope b) (forms_in b.terms c.args.forms.now) [] (the_term c.args.formula.now)) c.in_ok-id.ensures.term)

pub returns-clause-atom : goal.returns-clause-atom
returns-clause-atom c =
    let a = c.atom_of in
    form-atom c.args.bank.now c.normalise_by.new.bank c.args.forms.now c.in_ok-id.id a.result.atom a.result.positive (the_term c.args.formula.now)
    c.normalise_by.ensures.grows c.sig-declared.ensures.declared c.requires.formula c.requires.forms c.in_ok-id.ensures.term a.ensures.within a.ensures.unsigned a.ensures.literal
