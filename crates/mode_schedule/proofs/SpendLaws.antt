-- What a schedule spends.
use Rattle.std.specs.Prelude.{◌<◌, ◌≤◌, ◌+◌, ℕ, List, ◌⊎◌, refl}
use Rattle.std.proofs.Common.{ap, subst, inl, inr, arith}
use Rattle.std.proofs.lemmas.Bool.{cases_lt}
use Rattle.tableau_calculus.specs.Literals.{Literal}
use Rattle.search_spec.specs.Result.{GoesOnUntil, IsProved, IsExhausted, IsStopped, proved, gave_up, stopped}
use Rattle.search_spec.proofs.ResultLaws.{one_result}
use Rattle.command_queue.specs.declared.entry.Entry.{Entry}
use Rattle.mode_schedule.specs.Turns.{Slot, Course, opened, IsNextTurn, done_by, LeadsTo, has_none_left, is_at_limit, goes_on}
use Rattle.mode_schedule.specs.Ends.{IsSpentAt, SpendsFrom, spends_here, spends_later}
use Rattle.mode_schedule.specs.Laws.{IsSpentIn, SpentRunsAreSpent, SpentBeforeClosed, SecondSpendsNothing, two_slots}
use Rattle.mode_schedule.proofs.EndLaws.{goes_past, one_next}

-- some run by itself spends what the schedule spends
spent_from : (slots : List Slot) (start : List Literal) (c : Course) (conflicts : ℕ) → SpendsFrom slots start c conflicts → IsSpentIn slots start conflicts
spent_from slots start _ _ (spends_here c turn slot k conflicts h l s) = record { number = turn.command; slot = slot; its_slot = h.its_slot; spent = s.spent }
spent_from slots start _ _ (spends_later c next conflicts t d) = spent_from slots start next conflicts d

pub spent_runs : SpentRunsAreSpent
spent_runs slots start conflicts d = spent_from slots start (opened slots) conflicts d

-- a turn whose run is proved in it leads nowhere
leads_nowhere : (slots : List Slot) (start : List Literal) (c next : Course) → LeadsTo slots start c next → (turn : Entry ℕ) (slot : Slot) (k : ℕ) → IsNextTurn slots c turn slot → k < slot.slice → IsProved slot.setting start (done_by c turn + k) → ⊥
leads_nowhere slots start _ _ (has_none_left c u q j h' l' p') turn slot k h l p =
    let same = one_next slots c u turn q slot h' h in
    let mine : IsExhausted slot.setting start (done_by c u + j) = subst (λ (s : Slot). IsExhausted s.setting start (done_by c u + j)) same.1 p' in
    let e = one_result slot.setting start (gave_up (done_by c u + j)) (proved (done_by c turn + k)) mine p in
    absurd (cc)
leads_nowhere slots start _ _ (is_at_limit c u q j h' l' p') turn slot k h l p =
    let same = one_next slots c u turn q slot h' h in
    let mine : IsStopped slot.setting start (done_by c u + j) = subst (λ (s : Slot). IsStopped s.setting start (done_by c u + j)) same.1 p' in
    let e = one_result slot.setting start (stopped (done_by c u + j)) (proved (done_by c turn + k)) mine p in
    absurd (cc)
leads_nowhere slots start _ _ (goes_on c u q h' until) turn slot k h l p =
    let same = one_next slots c u turn q slot h' h in
    let mine : GoesOnUntil slot.setting start (done_by c u + q.slice) = subst (λ (s : Slot). GoesOnUntil s.setting start (done_by c u + q.slice)) same.1 until in
    goes_past slot.setting start (proved (done_by c turn + k)) (done_by c u + q.slice) p mine (omega (arith, l, ap (done_by c) same.0, ap (λ (s : Slot). s.slice) same.1))

-- a run isn't spent after more commands than those after which it is proved
spent_by_then : (slot : Slot) (start : List Literal) (before k j conflicts : ℕ) → IsProved slot.setting start (before + k) → IsSpentAt slot.setting start (before + j) conflicts → (k < j) ⊎ (j ≤ k) → j ≤ k
spent_by_then slot start before k j conflicts p s (inr l) = l
spent_by_then slot start before k j conflicts p s (inl l) =
    absurd (goes_past slot.setting start (proved (before + k)) (before + j) p (subst (GoesOnUntil slot.setting start) s.after s.spent.until) (omega (arith, l)))

spent_here : (slots : List Slot) (start : List Literal) (c : Course) (conflicts : ℕ) → SpendsFrom slots start c conflicts → (turn : Entry ℕ) (slot : Slot) (k : ℕ) → IsNextTurn slots c turn slot → k < slot.slice → IsProved slot.setting start (done_by c turn + k)
    → (j : ℕ) × (j ≤ k) × IsSpentAt slot.setting start (done_by c turn + j) conflicts
spent_here slots start _ _ (spends_here c u q j conflicts h' l' s) turn slot k h l p =
    let same = one_next slots c u turn q slot h' h in
    let by_slot : IsSpentAt slot.setting start (done_by c u + j) conflicts = subst (λ (x : Slot). IsSpentAt x.setting start (done_by c u + j) conflicts) same.1 s in
    let mine : IsSpentAt slot.setting start (done_by c turn + j) conflicts = subst (λ (t : Entry ℕ). IsSpentAt slot.setting start (done_by c t + j) conflicts) same.0 by_slot in
    (j, spent_by_then slot start (done_by c turn) k j conflicts p mine (cases_lt k j), mine)
spent_here slots start _ _ (spends_later c next conflicts t d) turn slot k h l p = absurd (leads_nowhere slots start c next t turn slot k h l p)

pub spent_before_closed : SpentBeforeClosed
spent_before_closed slots start c turn slot k conflicts h l p d = spent_here slots start c conflicts d turn slot k h l p

pub second_spends_nothing : SecondSpendsNothing
second_spends_nothing first second start conflicts p differ d =
    let slots : List Slot = two_slots 100 first 1000 second in
    let s = spent_before_closed slots start (opened slots) (record { due = 100; number = 0; command = 0 }) (record { slice = 100; setting = first }) 4 conflicts (record { is_next = refl; its_slot = refl }) (omega arith) p d in
    differ s.2.spent.is_budget
