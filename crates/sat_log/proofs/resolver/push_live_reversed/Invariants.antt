use Rattle.std.proofs.Common.{◌≡◌, ◌++◌, drop, reverse}
use Rattle.sat_log.specs.Internal.Resolver.{live}
use Rattle.sat_log.proofs.resolver.push_live_reversed.Given as goal

abbrev pub invariant-loop-i : goal.invariant-loop-i
invariant-loop-i l = l.clause ≡ l.fn.clause ++ live l.table (reverse (drop l.i l.placed))
