use Rattle.std.proofs.Common.{sym}
use Rattle.tableau_calculus.proofs.InstanceLaws.{close_is}
use Rattle.stt_tableau.proofs.opposites.close_instance.Goals as goal

pub returns-then-is_opposite : goal.returns-then-is_opposite
returns-then-is_opposite c = λ scope rows. close_is scope rows c.args.branch.now c.args.i c.args.j c.in-Some.lit.now c.in-Some-get.other.now c.new.result (sym c.in-Some.ensures) (sym c.in-Some-get.ensures) (c.is_opposite.ensures.0 c.if-is_opposite.true) c.new.ensures
