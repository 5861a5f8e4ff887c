use Rattle.tableau_calculus.proofs.InstanceLaws.{false_is}
use Rattle.stt_tableau.proofs.alone.false_instance.Goals as goal

pub returns-in-False : goal.returns-in-False
returns-in-False c = λ scope rows. false_is scope rows c.args.branch.now c.args.i c.new.result c.in-False.ensures c.new.ensures
