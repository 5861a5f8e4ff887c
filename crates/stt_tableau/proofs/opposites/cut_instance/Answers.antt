use Rattle.std.proofs.Common.{◌∙◌, ap}
use Rattle.tableau_calculus.specs.Literals.{opposite}
use Rattle.tableau_calculus.proofs.InstanceLaws.{cut_is}
use Rattle.stt_tableau.proofs.opposites.cut_instance.Goals as goal

pub returns : goal.returns
returns c = λ scope rows typed.
    cut_is scope rows c.args.branch.now c.args.lit.now c.in_ok-left.left c.opposite-right.result c.in_ok-either.field-0 typed c.in_ok-left.ensures (c.opposite-right.ensures ∙ ap opposite c.in_ok-try_clone.ensures) c.in_ok-either.ensures
