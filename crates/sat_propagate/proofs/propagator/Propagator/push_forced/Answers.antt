use Rattle.std.proofs.Common.{◌≡◌, ◌<◌, ◌+◌, ◌*◌, ◌++◌, [], ◌∷◌, List, length, refl, subst, sym, ap, ◌∙◌, arith}
use Rattle.sat_base.specs.declared.literal.SatLit.{SatLit}
use Rattle.sat_base.proofs.LiteralLaws.{All-held}
use Rattle.sat_propagate.specs.Internal.Trail.{TrailState}
use Rattle.sat_propagate.specs.Internal.Propagator.{IsPropagator, Enlists}
use Rattle.sat_propagate.specs.Internal.WatchLists.{WatchTable}
use Rattle.sat_propagate.specs.Internal.ClauseTable.{Watched, Clauses}
use Rattle.sat_propagate.proofs.ClauseTableLaws.{same_watched}
use Rattle.sat_propagate.proofs.InsertLaws.{literal_made, right_enlisted}
use Rattle.sat_propagate.proofs.ForcedLaws.{right_forced}
use Rattle.sat_propagate.proofs.propagator.Propagator.push_forced.Goals as goal

pub push-requires : goal.push-requires
push-requires c =
    let s = c.args.self.now in
    literal_made s.trail s.trail s.processed s.clauses.items s.lists c.args.clause.now c.args.first c.requires.over refl c.requires.right c.requires.unit.member

pub push-requires-2 : goal.push-requires-2
push-requires-2 c =
    let s = c.args.self.now in
    let made : c.args.second.var.0 * 2 + 1 < length s.lists = literal_made s.trail s.trail s.processed s.clauses.items s.lists c.args.clause.now c.args.second c.requires.over refl c.requires.right c.requires.second in
    omega (arith, c.push.ensures.made)

pub returns-in_err-push-2-clause-right : goal.returns-in_err-push-2-clause-right
returns-in_err-push-2-clause-right c =
    let s = c.args.self.now in
    subst (λ (lists : WatchTable). IsPropagator s.trail s.processed s.clauses.items lists) (sym c.in_err-push-2.ensures.err)
    (right_enlisted s.trail s.processed s.clauses.items s.lists c.push.new.self c.args.first (record { clause = c.in_ok-n.n; blocker = c.in_ok-other.other }) c.in_ok-push.ensures.ok c.push.ensures.made c.requires.right)

pub returns-in_err-push-3-clause-right : goal.returns-in_err-push-3-clause-right
returns-in_err-push-3-clause-right c =
    let s = c.args.self.now in
    let longer : IsPropagator s.trail s.processed s.clauses.items c.push-2.new.self =
    right_enlisted s.trail s.processed s.clauses.items c.push.new.self c.push-2.new.self c.args.second (record { clause = c.in_ok-n.n; blocker = c.in_ok-watched.watched }) c.in_ok-push-2.ensures.ok c.push-2.ensures.made
    (right_enlisted s.trail s.processed s.clauses.items s.lists c.push.new.self c.args.first (record { clause = c.in_ok-n.n; blocker = c.in_ok-other.other }) c.in_ok-push.ensures.ok c.push.ensures.made c.requires.right) in
    subst (λ (clauses : Clauses). IsPropagator s.trail s.processed clauses.items c.push-2.new.self) (sym c.in_err-push-3.ensures.err) longer

pub assign-requires-clause-made : goal.assign-requires-clause-made
assign-requires-clause-made c = All-held (λ (m : SatLit). m.var.0 < length c.args.self.now.trail.phases) c.args.clause.now c.args.first c.requires.over c.requires.unit.member

pub returns-in-Err-clause-right : goal.returns-in-Err-clause-right
returns-in-Err-clause-right c =
    let s = c.args.self.now in
    let longer : IsPropagator s.trail s.processed s.clauses.items c.push-2.new.self =
    right_enlisted s.trail s.processed s.clauses.items c.push.new.self c.push-2.new.self c.args.second (record { clause = c.in_ok-n.n; blocker = c.in_ok-watched.watched }) c.in_ok-push-2.ensures.ok c.push-2.ensures.made
    (right_enlisted s.trail s.processed s.clauses.items s.lists c.push.new.self c.args.first (record { clause = c.in_ok-n.n; blocker = c.in_ok-other.other }) c.in_ok-push.ensures.ok c.push.ensures.made c.requires.right) in
    let popped : c.pop.new.self.items ≡ s.clauses.items = c.pop.ensures s.clauses.items _ c.in_ok-push-3.ensures.ok in
    subst (λ (t : TrailState). IsPropagator t s.processed c.pop.new.self.items c.push-2.new.self) (sym c.in-Err.ensures.err)
    (subst (λ (some : List Watched). IsPropagator s.trail s.processed some c.push-2.new.self) (sym popped) longer)

pub returns-clause-right : goal.returns-clause-right
returns-clause-right c =
    let s = c.args.self.now in
    let clauses = s.clauses.items in
    let number : c.in_ok-n.n ≡ length clauses = omega (arith, c.len.ensures, c.in_ok-n.ensures) in
    let same = same_watched c.args.clause.now c.in_ok-watched.watched c.in_ok-other.other c.args.first c.args.second c.in_ok-watched.ensures c.in_ok-other.ensures in
    subst (λ (some : List Watched). IsPropagator c.assign.new.self s.processed some c.push-2.new.self) (sym (c.in_ok-push-3.ensures.ok ∙ ap (λ (w : Watched). clauses ++ w ∷ []) same))
    (right_forced s.trail c.assign.new.self s.processed c.in_ok-n.n clauses s.lists c.push.new.self c.push-2.new.self c.args.clause.now c.args.first c.args.second number
    c.in_default.ensures.steps c.assign.ensures.starts c.assign.ensures.made c.requires.second c.requires.apart c.requires.over c.requires.unit c.requires.unseen
    (subst (λ (b : SatLit). Enlists s.lists c.push.new.self c.args.first (record { clause = c.in_ok-n.n; blocker = b })) c.in_ok-other.ensures c.in_ok-push.ensures.ok) c.push.ensures.made
    (subst (λ (b : SatLit). Enlists c.push.new.self c.push-2.new.self c.args.second (record { clause = c.in_ok-n.n; blocker = b })) c.in_ok-watched.ensures c.in_ok-push-2.ensures.ok) c.push-2.ensures.made
    c.requires.right)
