use Rattle.std.proofs.Common.{arith}
use Rattle.sat_core.proofs.KeeperLaws.{all_true}
use Rattle.sat_core.proofs.keeper.Keeper.satisfy.Goals as goal

pub returns-clause-satisfied : goal.returns-clause-satisfied
returns-clause-satisfied c =
    λ e. all_true c.loop-self.self.values.items c.args.clauses.now c.loop-self.self.kept (omega (arith, c.loop-self-test.false, c.len-count.ensures)) c.loop-self.invariant.keeper.kept_true
