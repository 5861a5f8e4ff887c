use Rattle.std.proofs.lemmas.Bool.{not_from_false}
use Rattle.sat_propagate.specs.Internal.Trail.{literals}
use Rattle.sat_propagate.proofs.TableLaws.{open_then, open_else_true}
use Rattle.sat_propagate.proofs.trail.Trail.is_open.Goals as goal

pub returns-then-not-is_true : goal.returns-then-not-is_true
returns-then-not-is_true c =
    open_then (literals c.args.self.now.steps) c.args.var c.is_true.result c.is_true-then-not-is_true.result c.is_true.ensures c.is_true-then-not-is_true.ensures (not_from_false _ c.if-not-is_true.true)

pub returns-else-not-is_true : goal.returns-else-not-is_true
returns-else-not-is_true c = open_else_true (literals c.args.self.now.steps) c.args.var c.is_true.result c.is_true.ensures c.if-not-is_true.false
