use Rattle.std.proofs.Common.{◌≡◌, ◌++◌, take}
use Rattle.sat_log.specs.Resolution.{without_literal, each_once}
use Rattle.sat_log.proofs.resolver.Resolver.append_others.Given as goal

abbrev pub invariant-loop-literal : goal.invariant-loop-literal
invariant-loop-literal l = l.self ≡ each_once (l.fn.self ++ without_literal l.dropped (take l.literal-index l.literals))
