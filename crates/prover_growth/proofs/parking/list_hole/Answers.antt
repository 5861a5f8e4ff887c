use Rattle.prover_state.specs.Internal.Holes.{leftmost}
use Rattle.prover_growth.proofs.ParkingLaws.{listed-hole, listed-none}
use Rattle.prover_growth.proofs.parking.list_hole.Goals as goal

pub returns-in_ok-push-in-Some-clause-listed : goal.returns-in_ok-push-in-Some-clause-listed
returns-in_ok-push-in-Some-clause-listed c = λ n holes at.
    let t = c.args.tables.now in
    let m = c.in-Some.n in
    listed-hole n m c.args.p t.holes c.push.new.self (leftmost holes) (c.in-Some.ensures holes at) c.in_ok-push-in-Some.ensures

pub returns-in-None-clause-listed : goal.returns-in-None-clause-listed
returns-in-None-clause-listed c = λ n holes at. listed-none n c.args.p c.args.tables.now.holes (leftmost holes) (c.in-None.ensures holes at)
