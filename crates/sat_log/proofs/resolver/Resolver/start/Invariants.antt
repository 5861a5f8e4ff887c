use Rattle.std.proofs.Common.{◌≡◌, take}
use Rattle.sat_log.specs.Resolution.{each_once}
use Rattle.sat_log.proofs.resolver.Resolver.start.Given as goal

abbrev pub invariant-loop-literal : goal.invariant-loop-literal
invariant-loop-literal l = l.self ≡ each_once (take l.literal-index l.literals)
