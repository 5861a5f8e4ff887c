use Rattle.std.proofs.Common.{arith}
use Rattle.sat_propagate.proofs.TableLaws.{trail_room}
use Rattle.sat_propagate.proofs.propagator.Propagator.pick.Goals as goal

pub returns-then-len-variables-clause-none : goal.returns-then-len-variables-clause-none
returns-then-len-variables-clause-none c = λ v made absent.
    let room = trail_room c.args.self.now.trail v c.len.ensures.right made absent in
    omega (arith, room, c.if-len-variables.true, c.len.ensures.number, c.variables.ensures)
