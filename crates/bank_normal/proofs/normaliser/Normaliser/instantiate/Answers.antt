use Rattle.bank_normal.proofs.normaliser.Normaliser.instantiate.Goals as goal

pub apply-requires-clause-right : goal.apply-requires-clause-right
apply-requires-clause-right c = c.forget_many.ensures c.args.bank.now c.requires.right
