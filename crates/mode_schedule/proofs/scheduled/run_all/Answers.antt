use Rattle.std.proofs.Common.{ℕ, List, filter, sym, subst}
use Rattle.delta_defs.specs.Unfolding.{unfolded_problem}
use Rattle.tableau_calculus.specs.Start.{start}
use Rattle.search_spec.specs.Shallow.{is_shallow_literal}
use Rattle.mode_file.specs.Given.{IsInRange}
use Rattle.mode_schedule.specs.declared.Block.{Block}
use Rattle.mode_schedule.specs.declared.ended.Ended.{Ended}
use Rattle.mode_schedule.specs.Turns.{closed, empty, limit}
use Rattle.mode_schedule.specs.Scheduled.{slots_for}
use Rattle.mode_schedule.specs.Ends.{EndsWith}
use Rattle.mode_schedule.specs.Internal.Standing.{IsFresh}
use Rattle.mode_schedule.proofs.SearchesLaws.{slices-are, are-slots, all-at, some-holds}
use Rattle.mode_schedule.proofs.WholeLaws.{ends-so, spent-so, refuted-so}
use Rattle.mode_schedule.proofs.RefutedLaws.{closed-left, left-held, proved-by}
use Rattle.mode_schedule.proofs.scheduled.run_all.Goals as goal

pub run-requires-clause-slots : goal.run-requires-clause-slots
run-requires-clause-slots g c = are-slots (unfolded_problem c.args.maker.now.problem.now) c.args.maker.now.blocks.now c.requires.few c.requires.slices c.requires.in_range

pub run-requires-clause-fresh : goal.run-requires-clause-fresh
run-requires-clause-fresh g c =
    let s = c.args.schedule.now in
    let P : List ℕ → Type 0 = λ ns. IsFresh ns s.turns.entries s.turns.pushes s.total s.is_exhausted s.runs.items in
    subst P (sym (slices-are (unfolded_problem c.args.maker.now.problem.now) c.args.maker.now.blocks.now)) c.requires.fresh

pub run-requires-clause-may : goal.run-requires-clause-may
run-requires-clause-may g c = λ k l. (
  c.requires.typed,
  c.requires.modest,
  c.requires.prepared,
  c.requires.many,
  λ block e. all-at (λ (b : Block). IsInRange b.mode) _ k block c.requires.in_range e,
  λ w e. some-holds _ (λ v. g.W.Weigher.is_callable v) _ w (c.requires.callable k) e,
  λ block w e f. some-holds _ _ _ w (c.requires.answers k block e) f,
)

pub held-search-requires : goal.held-search-requires
held-search-requires g c =
    let left = closed-left _ _ _ _ _ _ _ c.in-Closed.is c.in_ok-block.ensures.closed in
    (left.run, left.its_run)

pub refutation_of-requires-clause-run : goal.refutation_of-requires-clause-run
refutation_of-requires-clause-run g c =
    let left = closed-left _ _ _ _ _ _ _ c.in-Closed.is c.in_ok-block.ensures.closed in
    let there = left-held _ _ _ _ _ left _ c.held-search.ensures in
    record { plan = c.held-search.result.now.core.plan; running = there.under_way.running }

pub refutation_of-requires-clause-ends : goal.refutation_of-requires-clause-ends
refutation_of-requires-clause-ends g c =
    let left = closed-left _ _ _ _ _ _ _ c.in-Closed.is c.in_ok-block.ensures.closed in
    (left-held _ _ _ _ _ left _ c.held-search.ensures).closed.ends

pub refutation_of-requires-clause-propagated : goal.refutation_of-requires-clause-propagated
refutation_of-requires-clause-propagated g c =
    let left = closed-left _ _ _ _ _ _ _ c.in-Closed.is c.in_ok-block.ensures.closed in
    (left-held _ _ _ _ _ left _ c.held-search.ensures).closed.propagated

pub returns-in_ok-refutation-in-Closed : goal.returns-in_ok-refutation-in-Closed
returns-in_ok-refutation-in-Closed g c =
    let p = unfolded_problem c.args.maker.now.problem.now in
    let blocks = c.args.maker.now.blocks.now in
    let few = filter is_shallow_literal (start p) in
    let E : Ended → Type 0 = λ e. EndsWith (slots_for p blocks) few e in
    let left = closed-left _ _ _ _ _ _ _ c.in-Closed.is c.in_ok-block.ensures.closed in
    let there = left-held _ _ _ _ _ left _ c.held-search.ensures in
    let refutation = c.in_ok-refutation-in-Closed.refutation in (
      ends-so p blocks (closed c.in-Closed.block c.in-Closed.total) (subst E c.in-Closed.is c.in_ok-block.ensures.ended),
      refuted-so p blocks c.in-Closed.block left.commands left.slot refutation left.its_slot
          (proved-by left.slot.setting few left.commands _ _ _ there left.proved.until refutation c.in_ok-refutation-in-Closed.ensures),
    )

pub returns-in-Empty : goal.returns-in-Empty
returns-in-Empty g c =
    let p = unfolded_problem c.args.maker.now.problem.now in
    let E : Ended → Type 0 = λ e. EndsWith (slots_for p c.args.maker.now.blocks.now) (filter is_shallow_literal (start p)) e in
    ends-so p c.args.maker.now.blocks.now (empty c.in-Empty.total) (subst E c.in-Empty.is c.in_ok-block.ensures.ended)

pub returns-in-Limit : goal.returns-in-Limit
returns-in-Limit g c =
    let p = unfolded_problem c.args.maker.now.problem.now in
    let E : Ended → Type 0 = λ e. EndsWith (slots_for p c.args.maker.now.blocks.now) (filter is_shallow_literal (start p)) e in
    ends-so p c.args.maker.now.blocks.now (limit c.in-Limit.total) (subst E c.in-Limit.is c.in_ok-block.ensures.ended)

pub returns-in-Spent : goal.returns-in-Spent
returns-in-Spent g c =
    let p = unfolded_problem c.args.maker.now.problem.now in
    let E : Ended → Type 0 = λ e. EndsWith (slots_for p c.args.maker.now.blocks.now) (filter is_shallow_literal (start p)) e in
    spent-so p c.args.maker.now.blocks.now c.in-Spent.conflicts (subst E c.in-Spent.is c.in_ok-block.ensures.ended)
