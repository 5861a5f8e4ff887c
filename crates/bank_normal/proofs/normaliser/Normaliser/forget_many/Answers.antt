use Rattle.bank_normal.proofs.normaliser.Normaliser.forget_many.Goals as goal

pub returns : goal.returns
returns c b right = record {
  lifted = λ k known. right.lifted k (c.forget_many.ensures k known);
  replaced = λ k known. right.replaced k (c.forget_many-2.ensures k known);
  applied = λ k known. right.applied k (c.forget_many-3.ensures k known);
  long = right.long;
  variables = right.variables;
}
