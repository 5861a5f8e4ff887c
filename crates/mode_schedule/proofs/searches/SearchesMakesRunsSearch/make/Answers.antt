use Rattle.std.proofs.Common.{◌<◌, length, arith, rules}
use Rattle.std.proofs.lemmas.List.{length-map}
use Rattle.std.proofs.lemmas.Option.{slice_get-get_or}
use Rattle.delta_defs.specs.Unfolding.{unfolded_problem}
use Rattle.delta_defs.proofs.KeptModels.{keeps_types}
use Rattle.mode_schedule.specs.Scheduled.{slot_for}
use Rattle.mode_schedule.proofs.SearchesLaws.{slot-is, ready-new, ok_seven}
use Rattle.mode_schedule.proofs.searches.SearchesMakesRunsSearch.make.Goals as goal

pub begin-requires-clause-answers : goal.begin-requires-clause-answers
begin-requires-clause-answers g c =
    let blocks = c.args.self.now.blocks.now in
    let l : c.args.number < length blocks = omega (arith, c.requires.within, length-map blocks (slot_for (unfolded_problem c.args.self.now.problem.now))) in
    let l' : c.args.number < length c.args.self.now.weighers.now = omega (arith, l, c.requires.may.3) in
    c.requires.may.6 _ _ (slice_get-get_or blocks c.args.number _ l) (slice_get-get_or c.args.self.now.weighers.now c.args.number _ l')

pub begin-requires-clause-prepared : goal.begin-requires-clause-prepared
begin-requires-clause-prepared g c = c.in_ok-prepared.ensures (unfolded_problem c.args.self.now.problem.now) c.requires.may.2

pub returns : goal.returns
returns g c =
    let blocks = c.args.self.now.blocks.now in
    let l : c.args.number < length blocks = omega (arith, c.requires.within, length-map blocks (slot_for (unfolded_problem c.args.self.now.problem.now))) in
    let p = unfolded_problem c.args.self.now.problem.now in
    ok_seven c.begin.result _ _ _ _ _ _ _ _ c.begin.ensures.under_way c.begin.ensures.mode c.begin.ensures.bases c.begin.ensures.consts c.begin.ensures.start c.begin.ensures.done c.begin.ensures.ready
    (λ s under_way mode bases consts literals done ready slot e.
    ready-new p (keeps_types c.args.self.now.problem.now c.requires.may.0) _ slot _ (slot-is p blocks c.args.number _ slot (slice_get-get_or blocks c.args.number _ l) e) s.core.tables s.core.plan s.mode s.is_refused under_way mode bases consts literals done ready)

pub returns-in_err-prepared : goal.returns-in_err-prepared
returns-in_err-prepared g c = search rules

pub begin-requires-clause-typed : goal.begin-requires-clause-typed
begin-requires-clause-typed g c = c.requires.may.0

pub begin-requires-clause-modest : goal.begin-requires-clause-modest
begin-requires-clause-modest g c = c.requires.may.1

pub begin-requires-clause-range : goal.begin-requires-clause-range
begin-requires-clause-range g c =
    let blocks = c.args.self.now.blocks.now in
    let l : c.args.number < length blocks = omega (arith, c.requires.within, length-map blocks (slot_for (unfolded_problem c.args.self.now.problem.now))) in
    c.requires.may.4 _ (slice_get-get_or blocks c.args.number _ l)

pub begin-requires-clause-callable : goal.begin-requires-clause-callable
begin-requires-clause-callable g c =
    let blocks = c.args.self.now.blocks.now in
    let l : c.args.number < length blocks = omega (arith, c.requires.within, length-map blocks (slot_for (unfolded_problem c.args.self.now.problem.now))) in
    let l' : c.args.number < length c.args.self.now.weighers.now = omega (arith, l, c.requires.may.3) in
    c.requires.may.5 _ (slice_get-get_or c.args.self.now.weighers.now c.args.number _ l')

pub bounds-self-number : goal.bounds-self-number
bounds-self-number g c = omega (arith, c.requires.within, length-map c.args.self.now.blocks.now (slot_for (unfolded_problem c.args.self.now.problem.now)))

pub bounds-self-number-2 : goal.bounds-self-number-2
bounds-self-number-2 g c = omega (arith, c.requires.may.3, c.requires.within, length-map c.args.self.now.blocks.now (slot_for (unfolded_problem c.args.self.now.problem.now)))

pub offset_bounds-self-number : goal.offset_bounds-self-number
offset_bounds-self-number g c = search rules

pub offset_bounds-self-number-2 : goal.offset_bounds-self-number-2
offset_bounds-self-number-2 g c =
    let l : c.args.number < length c.args.self.now.weighers.now = omega (arith, c.requires.may.3, c.requires.within, length-map c.args.self.now.blocks.now (slot_for (unfolded_problem c.args.self.now.problem.now))) in
    search (rules, l)
