use Rattle.std.proofs.Common.{sym, subst}
use Rattle.sat_base.specs.Literal.{positive}
use Rattle.sat_log.specs.Resolution.{HasNoRepeats}
use Rattle.sat_log.proofs.ResolutionLaws.{HasNoRepeats-without}
use Rattle.sat_log.proofs.resolver.Resolver.resolve.Goals as goal

pub append_others-requires : goal.append_others-requires
append_others-requires c = subst HasNoRepeats (sym c.remove.ensures) (HasNoRepeats-without (positive c.args.var) c.args.self.now c.requires.once)

pub prepend_others-requires : goal.prepend_others-requires
prepend_others-requires c = subst HasNoRepeats (sym c.remove-else-clashes.ensures) (HasNoRepeats-without c.negated-negative.result c.args.self.now c.requires.once)
