use Rattle.std.proofs.Common.{◌≡◌, [], map, take}
use Rattle.normal_forms.specs.Normal.{normal_form}
use Rattle.term_bank.specs.Content.{content_scope}
use Rattle.bank_normal.specs.Right.{IsRightNormaliser}
use Rattle.finite_models.proofs.forms.assumed_forms.Given as goal

abbrev pub invariant-loop-i : goal.invariant-loop-i
invariant-loop-i l = record {
  scope : content_scope l.bank ≡ content_scope l.fn.bank;
  right : IsRightNormaliser l.normaliser l.bank;
  forms : l.forms ≡ map (normal_form (content_scope l.fn.bank) []) (take l.i l.assumed);
}
