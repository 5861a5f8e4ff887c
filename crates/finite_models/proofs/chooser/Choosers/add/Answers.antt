use Rattle.std.proofs.lemmas.Result.{IfOk-equal}
use Rattle.finite_models.specs.ChooserView.{the_chooser}
use Rattle.finite_models.proofs.ChooserLaws.{kept, added}
use Rattle.finite_models.proofs.chooser.Choosers.add.Goals as goal

pub returns-in-None : goal.returns-in-None
returns-in-None c = IfOk-equal c.push.result _ _ _ c.push.ensures (added (the_chooser c.args.chooser) c.args.self.now c.in-None.ensures)

pub returns-in-Some : goal.returns-in-Some
returns-in-Some c = kept (the_chooser c.args.chooser) c.args.self.now c.in-Some.field-0 c.in-Some.ensures
