use Rattle.std.proofs.Common.{◌∙◌, ap}
use Rattle.tableau_calculus.specs.Literals.{opposite}
use Rattle.tableau_calculus.proofs.InstanceLaws.{imp_pos_is}
use Rattle.stt_tableau.proofs.alone.imp_pos_instance.Goals as goal

pub returns-in_ok-either-in-Imp : goal.returns-in_ok-either-in-Imp
returns-in_ok-either-in-Imp c = λ scope rows.
    imp_pos_is scope rows c.args.branch.now c.args.i c.in-Imp.s.now c.in-Imp.t.now c.opposite-left.result c.in_ok-right-in-Imp.right c.in_ok-either-in-Imp.field-0 c.in-Imp.ensures (c.opposite-left.ensures ∙ ap opposite c.in_ok-literal_of-in-Imp.ensures) c.in_ok-right-in-Imp.ensures c.in_ok-either-in-Imp.ensures
