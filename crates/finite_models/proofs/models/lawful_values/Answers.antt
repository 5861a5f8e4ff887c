use Rattle.std.proofs.Common.{ℕ}
use Rattle.finite_models.specs.Candidates.{IsLawful}
use Rattle.finite_models.specs.ChooserView.{the_chooser}
use Rattle.finite_models.proofs.LookLaws.{allowed_more}
use Rattle.finite_models.proofs.models.lawful_values.Goals as goal

pub loop-v-preserved : goal.loop-v-preserved
loop-v-preserved c =
    let r = allowed_more (λ (w : ℕ). IsLawful c.args.s (the_chooser c.args.chooser.now).constant w) c.loop-v.allowed.items c.push.new.self.items c.loop-v.v c.is_lawful-lawful.result c.loop-v.invariant.count c.loop-v.invariant.each c.is_lawful-lawful.ensures c.in_ok-push.ensures.items in
    record { count = r.0; each = r.1 }
