use Rattle.std.proofs.Common.{◌≤◌, ◌+◌, ◌*◌, [], ◌∷◌, ◌++◌, false, length, length-append, subst, sym, arith}
use Rattle.sat_propagate.specs.Internal.Trail.{TrailState}
use Rattle.sat_propagate.specs.Internal.WatchLists.{WatchTable}
use Rattle.sat_propagate.specs.Internal.Propagator.{IsPropagator}
use Rattle.sat_propagate.proofs.InsertLaws.{right_more_lists, right_variable}
use Rattle.sat_propagate.proofs.propagator.Propagator.add_variable.Goals as goal

pub returns-in_err-add_variable-2-clause-right : goal.returns-in_err-add_variable-2-clause-right
returns-in_err-add_variable-2-clause-right c =
    let p = c.args.self.now in
    subst (λ (lists : WatchTable). IsPropagator p.trail p.processed p.clauses.items lists) (sym c.in_ok-add_variable.ensures.ok)
    (right_more_lists p.trail p.processed p.clauses.items p.lists c.requires.right)

pub returns-in_err-add_variable-3-clause-right : goal.returns-in_err-add_variable-3-clause-right
returns-in_err-add_variable-3-clause-right c =
    let p = c.args.self.now in
    subst (λ (trail : TrailState). IsPropagator trail p.processed p.clauses.items c.add_variable.new.self) (sym c.in_err-add_variable-3.ensures.err)
    (subst (λ (lists : WatchTable). IsPropagator p.trail p.processed p.clauses.items lists) (sym c.in_ok-add_variable.ensures.ok)
    (right_more_lists p.trail p.processed p.clauses.items p.lists c.requires.right))

pub returns-clause-right : goal.returns-clause-right
returns-clause-right c =
    let p = c.args.self.now in
    let room : length p.trail.phases * 2 + 2 ≤ length (p.lists ++ [] ∷ [] ∷ []) = omega (arith, c.requires.right.lists_made, length-append p.lists ([] ∷ [] ∷ [])) in
    subst (λ (trail : TrailState). IsPropagator trail p.processed p.clauses.items c.add_variable.new.self) (sym c.in_ok-add_variable-3.ensures.ok)
    (subst (λ (lists : WatchTable). IsPropagator (record { steps = p.trail.steps; starts = p.trail.starts; phases = p.trail.phases ++ false ∷ [] }) p.processed p.clauses.items lists) (sym c.in_ok-add_variable.ensures.ok)
    (right_variable p.trail p.processed p.clauses.items (p.lists ++ [] ∷ [] ∷ []) room
    (right_more_lists p.trail p.processed p.clauses.items p.lists c.requires.right)))
