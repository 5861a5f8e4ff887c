use Rattle.finite_models.specs.ChooserView.{the_chooser}
use Rattle.finite_models.proofs.CompileLaws.{no_place_for}
use Rattle.finite_models.proofs.compile.place_behind.Goals as goal

pub unreachable-requires : goal.unreachable-requires
unreachable-requires c =
    no_place_for c.args.frame.now.choosers.now (the_chooser c.args.chooser.now) c.requires c.in-None.ensures
