use Rattle.finite_models.proofs.forms.formulas_of.Goals as goal

pub forms_over-forms-requires-clause-right : goal.forms_over-forms-requires-clause-right
forms_over-forms-requires-clause-right c = c.new-normaliser.ensures c.new-bank.result
