use Rattle.std.proofs.Common.{◌∙◌, ap}
use Rattle.tableau_calculus.specs.Literals.{opposite}
use Rattle.tableau_calculus.proofs.InstanceLaws.{imp_neg_is}
use Rattle.stt_tableau.proofs.alone.imp_neg_instance.Goals as goal

pub returns-in_ok-both-in-Imp : goal.returns-in_ok-both-in-Imp
returns-in_ok-both-in-Imp c = λ scope rows.
    imp_neg_is scope rows c.args.branch.now c.args.i c.in-Imp.s.now c.in-Imp.t.now c.in_ok-left-in-Imp.left c.opposite-right.result c.in_ok-both-in-Imp.field-0 c.in-Imp.ensures c.in_ok-left-in-Imp.ensures (c.opposite-right.ensures ∙ ap opposite c.in_ok-literal_of-in-Imp.ensures) c.in_ok-both-in-Imp.ensures
