use Rattle.std.proofs.Common.{◌≡◌, ◌++◌, take}
use Rattle.sat_log.specs.Internal.Resolver.{live}
use Rattle.sat_log.proofs.resolver.push_live.Given as goal

abbrev pub invariant-loop-p : goal.invariant-loop-p
invariant-loop-p l = l.clause ≡ l.fn.clause ++ live l.table (take l.p-index l.placed)
