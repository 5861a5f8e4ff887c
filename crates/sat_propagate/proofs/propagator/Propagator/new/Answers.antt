use Rattle.std.proofs.Common.{[], List, subst, sym}
use Rattle.sat_propagate.specs.Internal.Trail.{TrailState}
use Rattle.sat_propagate.specs.Internal.WatchLists.{WatchTable}
use Rattle.sat_propagate.specs.Internal.Propagator.{IsPropagator}
use Rattle.sat_propagate.specs.Internal.ClauseTable.{Watched}
use Rattle.sat_propagate.proofs.InsertLaws.{right_empty}
use Rattle.sat_propagate.proofs.propagator.Propagator.new.Goals as goal

pub returns-clause-right : goal.returns-clause-right
returns-clause-right c =
    subst (λ (trail : TrailState). IsPropagator trail 0 c.new-2.result.items c.new-3.result) (sym c.new.ensures)
    (subst (λ (clauses : List Watched). IsPropagator (record { steps = []; starts = []; phases = [] }) 0 clauses c.new-3.result) (sym c.new-2.ensures)
    (subst (λ (lists : WatchTable). IsPropagator (record { steps = []; starts = []; phases = [] }) 0 [] lists) (sym c.new-3.ensures) right_empty))
