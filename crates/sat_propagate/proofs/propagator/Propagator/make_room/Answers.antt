use Rattle.std.proofs.Common.{ℕ, List, subst, sym, ◌∙◌}
use Rattle.std.specs.List.{Contains}
use Rattle.sat_propagate.specs.Internal.Trail.{TrailState, literals}
use Rattle.sat_propagate.specs.Internal.Insertion.{IsUnseen}
use Rattle.sat_propagate.proofs.InsertLaws.{denied_mentioned, rank_of_place, unseen_open, unseen_back, back_same}
use Rattle.sat_propagate.proofs.propagator.Propagator.make_room.Goals as goal

pub place-place-requires : goal.place-place-requires
place-place-requires c = denied_mentioned (literals c.args.self.now.trail.steps) c.args.literal (sym c.is_false.ensures ∙ c.if-is_false.true)

pub process_from-requires-clause-started : goal.process_from-requires-clause-started
process_from-requires-clause-started c =
    λ s there. c.level_of-level.ensures.earlier s (subst (λ (starts : List ℕ). Contains starts s) c.back_to.ensures.starts there)

pub returns-then-is_false-clause-unseen : goal.returns-then-is_false-clause-unseen
returns-then-is_false-clause-unseen c =
    let trail = c.args.self.now.trail in
    let place = c.place-place.result in
    let back = c.back_to.new.self.trail in
    λ l sooner.
    subst (λ (t : TrailState). IsUnseen t.starts (literals t.steps) c.process_from.new.self.processed l) (sym c.process_from.ensures.trail)
    (unseen_back (literals trail.steps) (literals back.steps) back.starts c.process_from.new.self.processed place c.args.literal l
    (back_same trail back c.level_of-level.result place c.back_to.ensures.steps c.back_to.ensures.same c.level_of-level.ensures.later)
    (λ s there. c.level_of-level.ensures.earlier s (subst (λ (starts : List ℕ). Contains starts s) c.back_to.ensures.starts there))
    c.process_from.ensures.processed
    (rank_of_place trail.steps c.args.literal place (sym c.is_false.ensures ∙ c.if-is_false.true) c.place-place.ensures.place)
    sooner)

pub returns-else-is_false-clause-unseen : goal.returns-else-is_false-clause-unseen
returns-else-is_false-clause-unseen c =
    λ l sooner. unseen_open c.args.self.now.trail.starts (literals c.args.self.now.trail.steps) c.args.self.now.processed c.args.literal l (sym c.is_false.ensures ∙ c.if-is_false.false) sooner
