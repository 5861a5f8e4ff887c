use Rattle.std.proofs.Common.{◌≡◌, ◌<◌, ◌+◌, ◌*◌, ◌++◌, [], ◌∷◌, ℕ, List, length, subst, sym, ap, ◌∙◌, arith}
use Rattle.sat_base.specs.declared.literal.SatLit.{SatLit}
use Rattle.sat_base.specs.Literal.{IsOver}
use Rattle.sat_propagate.specs.Internal.Propagator.{IsPropagator, Enlists}
use Rattle.sat_propagate.specs.Internal.WatchLists.{WatchTable}
use Rattle.sat_propagate.specs.Internal.ClauseTable.{Watched, Clauses}
use Rattle.sat_propagate.proofs.ClauseTableLaws.{same_watched}
use Rattle.sat_propagate.proofs.InsertLaws.{literal_made, right_enlisted, right_watched}
use Rattle.sat_propagate.proofs.propagator.Propagator.push_watched.Goals as goal

pub push-requires : goal.push-requires
push-requires c =
    let room = c.make_room.new.self in
    literal_made c.args.self.now.trail room.trail room.processed room.clauses.items room.lists c.args.clause.now c.args.first c.requires.over c.make_room.ensures.made c.make_room.ensures.right c.requires.first

pub push-requires-2 : goal.push-requires-2
push-requires-2 c =
    let room = c.make_room.new.self in
    let made : c.args.second.var.0 * 2 + 1 < length room.lists =
    literal_made c.args.self.now.trail room.trail room.processed room.clauses.items room.lists c.args.clause.now c.args.second c.requires.over c.make_room.ensures.made c.make_room.ensures.right c.requires.second in
    omega (arith, c.push.ensures.made)

pub returns-in_err-push-2-clause-right : goal.returns-in_err-push-2-clause-right
returns-in_err-push-2-clause-right c =
    let room = c.make_room.new.self in
    subst (λ (lists : WatchTable). IsPropagator room.trail room.processed room.clauses.items lists) (sym c.in_err-push-2.ensures.err)
    (right_enlisted room.trail room.processed room.clauses.items room.lists c.push.new.self c.args.first (record { clause = c.in_ok-n.n; blocker = c.in_ok-other.other }) c.in_ok-push.ensures.ok c.push.ensures.made
    c.make_room.ensures.right)

pub returns-in_err-push-3-clause-right : goal.returns-in_err-push-3-clause-right
returns-in_err-push-3-clause-right c =
    let room = c.make_room.new.self in
    let longer : IsPropagator room.trail room.processed room.clauses.items c.push-2.new.self =
    right_enlisted room.trail room.processed room.clauses.items c.push.new.self c.push-2.new.self c.args.second (record { clause = c.in_ok-n.n; blocker = c.in_ok-watched.watched }) c.in_ok-push-2.ensures.ok c.push-2.ensures.made
    (right_enlisted room.trail room.processed room.clauses.items room.lists c.push.new.self c.args.first (record { clause = c.in_ok-n.n; blocker = c.in_ok-other.other }) c.in_ok-push.ensures.ok c.push.ensures.made
    c.make_room.ensures.right) in
    subst (λ (clauses : Clauses). IsPropagator room.trail room.processed clauses.items c.push-2.new.self) (sym c.in_err-push-3.ensures.err) longer

pub returns-clause-right : goal.returns-clause-right
returns-clause-right c =
    let room = c.make_room.new.self in
    let clauses = room.clauses.items in
    let before : c.in_ok-n.n ≡ length c.args.self.now.clauses.items = omega (arith, c.len.ensures, c.in_ok-n.ensures) in
    let number : c.in_ok-n.n ≡ length clauses = before ∙ ap (λ (some : List Watched). length some) (sym c.make_room.ensures.clauses) in
    let over : IsOver (length room.trail.phases) c.args.clause.now = subst (λ (n : ℕ). IsOver n c.args.clause.now) (sym c.make_room.ensures.made) c.requires.over in
    let same = same_watched c.args.clause.now c.in_ok-watched.watched c.in_ok-other.other c.args.first c.args.second c.in_ok-watched.ensures c.in_ok-other.ensures in
    subst (λ (some : List Watched). IsPropagator room.trail room.processed some c.push-2.new.self) (sym (c.in_ok-push-3.ensures.ok ∙ ap (λ (w : Watched). clauses ++ w ∷ []) same))
    (right_watched room.trail room.processed c.in_ok-n.n clauses room.lists c.push.new.self c.push-2.new.self c.args.clause.now c.args.first c.args.second number
    c.requires.first c.requires.second c.requires.apart over (c.make_room.ensures.unseen c.args.first c.requires.sooner) (c.make_room.ensures.unseen c.args.second (λ s h. h))
    (subst (λ (b : SatLit). Enlists room.lists c.push.new.self c.args.first (record { clause = c.in_ok-n.n; blocker = b })) c.in_ok-other.ensures c.in_ok-push.ensures.ok) c.push.ensures.made
    (subst (λ (b : SatLit). Enlists c.push.new.self c.push-2.new.self c.args.second (record { clause = c.in_ok-n.n; blocker = b })) c.in_ok-watched.ensures c.in_ok-push-2.ensures.ok) c.push-2.ensures.made
    c.make_room.ensures.right)
