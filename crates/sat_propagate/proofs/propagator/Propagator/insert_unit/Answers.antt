use Rattle.std.proofs.Common.{sym, ◌∙◌}
use Rattle.sat_propagate.specs.Internal.Trail.{literals}
use Rattle.sat_propagate.proofs.InsertLaws.{alone_false}
use Rattle.sat_propagate.proofs.propagator.Propagator.insert_unit.Goals as goal

pub returns-then-is_false-clause-falsified : goal.returns-then-is_false-clause-falsified
returns-then-is_false-clause-falsified c =
    λ e. alone_false (literals c.back_to.new.self.trail.steps) c.args.clause.now c.args.literal (sym c.is_false.ensures ∙ c.if-is_false.true) c.requires.alone
