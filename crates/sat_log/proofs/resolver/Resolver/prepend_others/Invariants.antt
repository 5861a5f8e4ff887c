use Rattle.std.proofs.Common.{◌≡◌, ◌++◌, drop}
use Rattle.sat_log.specs.Resolution.{without_literal, each_once}
use Rattle.sat_log.proofs.resolver.Resolver.prepend_others.Given as goal

abbrev pub invariant-loop-i : goal.invariant-loop-i
invariant-loop-i l = l.self ≡ each_once (without_literal l.dropped (drop l.i l.literals) ++ l.fn.self)
