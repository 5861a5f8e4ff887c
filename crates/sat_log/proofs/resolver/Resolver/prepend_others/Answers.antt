use Rattle.std.proofs.Common.{◌∙◌}
use Rattle.sat_log.proofs.ResolutionLaws.{HasNoRepeats-made}
use Rattle.sat_log.proofs.resolver.Resolver.prepend_others.Goals as goal

pub returns-in_err-move_to_front-clause-once : goal.returns-in_err-move_to_front-clause-once
returns-in_err-move_to_front-clause-once c = HasNoRepeats-made c.move_to_front.new.self _ (c.in_err-move_to_front.ensures.err ∙ c.loop-i.invariant)

pub returns-clause-once : goal.returns-clause-once
returns-clause-once c = HasNoRepeats-made c.loop-i.self _ c.loop-i.invariant
