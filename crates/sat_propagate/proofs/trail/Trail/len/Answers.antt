use Rattle.std.proofs.Common.{subst}
use Rattle.sat_propagate.specs.Internal.Trail.{IsPhased}
use Rattle.sat_propagate.proofs.TableLaws.{phase_held}
use Rattle.sat_propagate.proofs.trail.Trail.len.Goals as goal

pub returns-clause-phased : goal.returns-clause-phased
returns-clause-phased c = subst IsPhased c.self.view_is (phase_held c.self.inside.cells.items c.self.inside.steps.items c.self.invariant.inside.tabled)
