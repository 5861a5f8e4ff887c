use Rattle.std.proofs.Common.{sym, ◌∙◌, arith}
use Rattle.finite_models.specs.ChooserView.{the_chooser}
use Rattle.finite_models.proofs.ChooserLaws.{found_first, not_more}
use Rattle.finite_models.proofs.RankLaws.{get_within}
use Rattle.finite_models.proofs.chooser.Choosers.place_of.Goals as goal

pub returns-then-same : goal.returns-then-same
returns-then-same c =
    found_first (the_chooser c.args.chooser.now) c.args.self.now c.loop-i.i (the_chooser c.at.result.now) c.at.ensures (sym c.if-same.true ∙ c.same.ensures) c.loop-i.invariant

pub loop-i-preserved : goal.loop-i-preserved
loop-i-preserved c =
    not_more (the_chooser c.args.chooser.now) c.args.self.now c.loop-i.i (the_chooser c.at.result.now) c.at.ensures (sym c.if-same.false ∙ c.same.ensures) c.loop-i.invariant

pub returns : goal.returns
returns c = λ j x g e. c.loop-i.invariant j x (let l = get_within c.args.self.now j x g in omega arith) g e
