use Rattle.std.proofs.Common.{◌≡◌, ◌<◌, ◌++◌, [], ◌∷◌, List, length, subst, sym, ap, ◌∙◌, arith}
use Rattle.sat_base.proofs.LiteralLaws.{All-held}
use Rattle.sat_base.specs.declared.literal.SatLit.{SatLit}
use Rattle.sat_propagate.specs.Internal.Trail.{literals}
use Rattle.sat_propagate.specs.Internal.ClauseTable.{Watched}
use Rattle.sat_propagate.specs.Internal.Propagator.{IsPropagator}
use Rattle.sat_propagate.proofs.ClauseTableLaws.{same_watched}
use Rattle.sat_propagate.proofs.InsertLaws.{right_unit, right_unit_assigned, unit_open}
use Rattle.sat_propagate.proofs.propagator.Propagator.push_unit.Goals as goal

pub assign-requires-clause-made : goal.assign-requires-clause-made
assign-requires-clause-made c =
    All-held (λ (m : SatLit). m.var.0 < length c.args.self.now.trail.phases) c.args.clause.now c.args.literal c.requires.over c.requires.member

pub assign-requires-clause-undecided : goal.assign-requires-clause-undecided
assign-requires-clause-undecided c =
    unit_open (literals c.args.self.now.trail.steps) c.args.literal c.requires.undenied (sym c.is_true.ensures ∙ c.if-is_true.false)

pub returns-then-is_true-clause-right : goal.returns-then-is_true-clause-right
returns-then-is_true-clause-right c =
    let before = c.args.self.now in
    let same = same_watched c.args.clause.now c.in_ok-packed.packed c.in_ok-packed.packed c.args.literal c.args.literal c.in_ok-packed.ensures c.in_ok-packed.ensures in
    subst (λ (some : List Watched). IsPropagator before.trail before.processed some before.lists)
    (sym (c.in_ok-push.ensures.ok ∙ ap (λ (w : Watched). before.clauses.items ++ w ∷ []) same))
    (right_unit before.trail before.processed before.clauses.items before.lists c.args.clause.now c.args.literal c.requires.root (sym c.is_true.ensures ∙ c.if-is_true.true)
    c.requires.member c.requires.alone c.requires.over c.requires.right)

pub returns-clause-right : goal.returns-clause-right
returns-clause-right c =
    let before = c.args.self.now in
    let same = same_watched c.args.clause.now c.in_ok-packed.packed c.in_ok-packed.packed c.args.literal c.args.literal c.in_ok-packed.ensures c.in_ok-packed.ensures in
    let number : c.len-n.result ≡ length before.clauses.items = omega (arith, c.len-n.ensures) in
    subst (λ (some : List Watched). IsPropagator c.assign.new.self before.processed some before.lists)
    (sym (c.in_ok-push.ensures.ok ∙ ap (λ (w : Watched). before.clauses.items ++ w ∷ []) same))
    (right_unit_assigned before.trail c.assign.new.self before.processed c.len-n.result before.clauses.items before.lists c.args.clause.now c.args.literal number
    c.in_default.ensures.steps c.assign.ensures.starts c.assign.ensures.made c.requires.root c.requires.undenied c.requires.member c.requires.alone c.requires.over c.requires.right)
