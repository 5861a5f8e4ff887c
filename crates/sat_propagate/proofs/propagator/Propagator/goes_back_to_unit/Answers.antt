use Rattle.std.proofs.Common.{◌≡◌, ◌≤◌, ℕ, true, List, length, sym, subst, ◌∙◌, arith}
use Rattle.std.specs.List.{Contains}
use Rattle.std.proofs.lemmas.List.{take_all}
use Rattle.sat_base.specs.Literal.{holds, negated}
use Rattle.sat_propagate.specs.Internal.Trail.{literals}
use Rattle.sat_propagate.proofs.InsertLaws.{denied_mentioned, rank_of_place, unseen_back, back_same}
use Rattle.sat_propagate.proofs.ForcedLaws.{back_begins, back_denied}
use Rattle.sat_propagate.proofs.propagator.Propagator.goes_back_to_unit.Goals as goal

pub returns-then-not-is_false-clause-beginning : goal.returns-then-not-is_false-clause-beginning
returns-then-not-is_false-clause-beginning c =
    let trail = literals c.args.self.now.trail.steps in
    (length trail, sym (take_all (length trail) trail (omega arith)))

pub place-place-requires : goal.place-place-requires
place-place-requires c = denied_mentioned (literals c.args.self.now.trail.steps) c.args.second (sym c.is_false.ensures ∙ c.if-not-is_false.false)

pub returns-clause-beginning : goal.returns-clause-beginning
returns-clause-beginning c = back_begins c.args.self.now.trail c.back_to.new.self.trail c.level_of-level.result c.back_to.ensures.steps c.back_to.ensures.same

pub returns-clause-denied : goal.returns-clause-denied
returns-clause-denied c = λ opened.
    let trail = c.args.self.now.trail in
    let denied : holds (literals trail.steps) (negated c.args.second) ≡ true = sym c.is_false.ensures ∙ c.if-not-is_false.false in
    back_denied trail c.back_to.new.self.trail c.level_of-level.result c.place-place.result c.args.second c.back_to.ensures.steps c.back_to.ensures.same c.level_of-level.ensures.later
    c.place-place.ensures.right (rank_of_place trail.steps c.args.second c.place-place.result denied c.place-place.ensures.place) denied

pub returns-clause-unseen : goal.returns-clause-unseen
returns-clause-unseen c = λ opened.
    let trail = c.args.self.now.trail in
    let back = c.back_to.new.self.trail in
    let place = c.place-place.result in
    let denied : holds (literals trail.steps) (negated c.args.second) ≡ true = sym c.is_false.ensures ∙ c.if-not-is_false.false in
    let first : 0 ≤ place = omega arith in
    (unseen_back (literals trail.steps) (literals back.steps) back.starts 0 place c.args.second c.args.second
    (back_same trail back c.level_of-level.result place c.back_to.ensures.steps c.back_to.ensures.same c.level_of-level.ensures.later)
    (λ s there. c.level_of-level.ensures.earlier s (subst (λ (starts : List ℕ). Contains starts s) c.back_to.ensures.starts there))
    first (rank_of_place trail.steps c.args.second place denied c.place-place.ensures.place) (λ s h. h)).at_decisions
