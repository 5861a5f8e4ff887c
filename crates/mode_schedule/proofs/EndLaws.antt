-- A schedule ends in one way, and is closed exactly where a run is proved.
use Rattle.std.specs.Prelude.{◌≡◌, ◌≢◌, ◌<◌, ◌≤◌, ◌+◌, ◌==◌, not, ℕ, zero, suc, Bool, true, false, List, [], ◌∷◌, ◌++◌, length, slice_get, Option, Some, ◌⊎◌, refl, if◌then◌else◌}
use Rattle.std.proofs.Common.{sym, ap, ap₂, ◌∙◌, subst, inl, inr, arith, cond}
use Rattle.std.proofs.lemmas.Bool.{cases_eq, ne_eqb, eq-eqb}
use Rattle.std.proofs.lemmas.Option.{same_Some}
use Rattle.tableau_calculus.specs.Literals.{Literal}
use Rattle.search_spec.specs.Unsatisfiable.{Unsatisfiable}
use Rattle.search_spec.specs.State.{State, Setting}
use Rattle.search_spec.specs.Queue.{next_command, first_waiting, without_number}
use Rattle.command_queue.specs.declared.entry.Entry.{Entry}
use Rattle.command_queue.specs.Queue.{comes_before}
use Rattle.search_spec.specs.Result.{GoesOn, GoesOnUntil, IsProved, IsExhausted, IsStopped, Result, proved, gave_up, stopped, IsResult}
use Rattle.search_spec.proofs.ResultLaws.{one_result}
use Rattle.mode_schedule.specs.Turns.{Slot, Course, turns_from, opened, IsNextTurn, done_by, taken, pushed_again, exhausted_by, End, closed, empty, limit, LeadsTo, has_none_left, is_at_limit, goes_on, ScheduleEndsFrom, closes, ends_after, no_turn_left, ScheduleEnds}
use Rattle.mode_schedule.specs.Laws.{IsProvedRun, IsClosedEnd, ClosedRunsAreProved, ClosedExactlyWhereProved}

-- A RUN

abbrev number : Result → ℕ
number (proved n) = n
number (gave_up n) = n
number (stopped n) = n

same_state : {x : Option State} (s t : State) → x ≡ Some s → x ≡ Some t → s ≡ t
same_state s t e f = same_Some s t (sym e ∙ f)

-- a run doesn't go on where it ends
no_more : (setting : Setting) (start : List Literal) (r : Result) → IsResult setting start r → GoesOn setting start (number r) → ⊥
no_more setting start (proved n) h g = g.open_state.satisfiable (subst (λ (s : State). Unsatisfiable s.clauses) (same_state h.state g.state h.comes_to g.open_state.comes_to) h.unsatisfiable)
no_more setting start (gave_up n) h g = g.some_left (ap (λ (s : State). s.queue) (sym (same_state h.state g.state h.open_state.comes_to g.open_state.comes_to)) ∙ h.none_left)
no_more setting start (stopped n) h g = g.below h.at_limit

-- where a run goes on until some command, it has no result before
pub goes_past : (setting : Setting) (start : List Literal) (r : Result) (n : ℕ) → IsResult setting start r → GoesOnUntil setting start n → number r < n → ⊥
goes_past setting start r n h until l = no_more setting start r h (until (number r) l)

-- THE NEXT TURN

-- the same turn is next, with the same run
pub one_next : (slots : List Slot) (c : Course) (t u : Entry ℕ) (p q : Slot) → IsNextTurn slots c t p → IsNextTurn slots c u q → (t ≡ u) × (p ≡ q)
one_next slots c t u p q h k =
    let turn : t ≡ u = same_Some t u (sym h.is_next ∙ k.is_next) in
    (turn, same_Some p q (sym h.its_slot ∙ ap (λ (w : Entry ℕ). slice_get slots w.command) turn ∙ k.its_slot))

no_next : (slots : List Slot) (c : Course) (t : Entry ℕ) (p : Slot) → IsNextTurn slots c t p → c.turns ≡ [] → ⊥
no_next slots c t p h e = let none = ap next_command e in let some = h.is_next in absurd (cc)

-- ONE END

-- what follows where the run of a turn has this result within it
abbrev Follows : List Slot → List Literal → Course → Entry ℕ → ℕ → Result → End → Type 0
Follows slots start c turn k (proved n) e = e ≡ closed turn.command (c.total + k)
Follows slots start c turn k (gave_up n) e = ScheduleEndsFrom slots start (exhausted_by (taken c turn k)) e
Follows slots start c turn k (stopped n) e = ScheduleEndsFrom slots start (taken c turn k) e

-- the run of the next turn has a result within it
record EndsWithin (slots : List Slot) (start : List Literal) (c : Course) (e : End) : Type 0 where
  turn : Entry ℕ
  slot : Slot
  k : ℕ
  result : Result
  next : IsNextTurn slots c turn slot
  within : k < slot.slice
  is_result : IsResult slot.setting start result
  number_is : number result ≡ done_by c turn + k
  follows : Follows slots start c turn k result e

-- the run of the next turn waits for a further one
record WaitsAgain (slots : List Slot) (start : List Literal) (c : Course) (e : End) : Type 0 where
  turn : Entry ℕ
  slot : Slot
  next : IsNextTurn slots c turn slot
  until : GoesOnUntil slot.setting start (done_by c turn + slot.slice)
  follows : ScheduleEndsFrom slots start (pushed_again slot turn (taken c turn slot.slice)) e

record HasNoTurn (slots : List Slot) (start : List Literal) (c : Course) (e : End) : Type 0 where
  none : c.turns ≡ []
  end_is : e ≡ (if c.exhausted then empty c.total else limit c.total)

later-view : (slots : List Slot) (start : List Literal) (c next : Course) (e : End) → LeadsTo slots start c next → ScheduleEndsFrom slots start next e → EndsWithin slots start c e ⊎ (WaitsAgain slots start c e ⊎ HasNoTurn slots start c e)
later-view slots start _ _ e (has_none_left c turn slot k h l p) d = inl (record { turn = turn; slot = slot; k = k; result = gave_up (done_by c turn + k); next = h; within = l; is_result = p; number_is = refl; follows = d })
later-view slots start _ _ e (is_at_limit c turn slot k h l p) d = inl (record { turn = turn; slot = slot; k = k; result = stopped (done_by c turn + k); next = h; within = l; is_result = p; number_is = refl; follows = d })
later-view slots start _ _ e (goes_on c turn slot h until) d = inr (inl (record { turn = turn; slot = slot; next = h; until = until; follows = d }))

view : (slots : List Slot) (start : List Literal) (c : Course) (e : End) → ScheduleEndsFrom slots start c e → EndsWithin slots start c e ⊎ (WaitsAgain slots start c e ⊎ HasNoTurn slots start c e)
view slots start _ _ (closes c turn slot k h l p) = inl (record { turn = turn; slot = slot; k = k; result = proved (done_by c turn + k); next = h; within = l; is_result = p; number_is = refl; follows = refl })
view slots start _ _ (ends_after c next e t d) = later-view slots start c next e t d
view slots start _ _ (no_turn_left c none) = inr (inr (record { none = none; end_is = refl }))

module _ (slots : List Slot) (start : List Literal) (c : Course) (e : End) (turn : Entry ℕ) (slot : Slot) (h : IsNextTurn slots c turn slot) where
  -- another way to end has the same result
  same_within : (k : ℕ) (r : Result) → IsResult slot.setting start r → number r ≡ done_by c turn + k → (w : EndsWithin slots start c e) → Follows slots start c turn k r e
  same_within k r p n w =
      let same = one_next slots c w.turn turn w.slot slot w.next h in
      let mine : IsResult slot.setting start w.result = subst (λ (s : Slot). IsResult s.setting start w.result) same.1 w.is_result in
      let result : w.result ≡ r = one_result slot.setting start w.result r mine p in
      let count : w.k ≡ k = omega (arith, n, w.number_is, ap number result, ap (done_by c) same.0) in
      subst (λ (q : Result). Follows slots start c turn k q e) result
      (subst (λ m. Follows slots start c turn m w.result e) count
      (subst (λ (t : Entry ℕ). Follows slots start c t w.k w.result e) same.0 w.follows))

  -- and doesn't wait for a further turn
  not_again : (k : ℕ) (r : Result) → IsResult slot.setting start r → number r ≡ done_by c turn + k → k < slot.slice → WaitsAgain slots start c e → ⊥
  not_again k r p n l w =
      let same = one_next slots c w.turn turn w.slot slot w.next h in
      let until : GoesOnUntil slot.setting start (done_by c w.turn + w.slot.slice) = subst (λ (s : Slot). GoesOnUntil s.setting start (done_by c w.turn + w.slot.slice)) same.1 w.until in
      goes_past slot.setting start r (done_by c w.turn + w.slot.slice) p until (omega (arith, n, l, ap (done_by c) same.0, ap (λ (s : Slot). s.slice) same.1))

  not_within : GoesOnUntil slot.setting start (done_by c turn + slot.slice) → EndsWithin slots start c e → ⊥
  not_within until w =
      let same = one_next slots c w.turn turn w.slot slot w.next h in
      let mine : IsResult slot.setting start w.result = subst (λ (s : Slot). IsResult s.setting start w.result) same.1 w.is_result in
      goes_past slot.setting start w.result (done_by c turn + slot.slice) mine until (omega (arith, w.number_is, w.within, ap (done_by c) same.0, ap (λ (s : Slot). s.slice) same.1))

  same_again : WaitsAgain slots start c e → ScheduleEndsFrom slots start (pushed_again slot turn (taken c turn slot.slice)) e
  same_again w =
      let same = one_next slots c w.turn turn w.slot slot w.next h in
      subst (λ (x : Course). ScheduleEndsFrom slots start x e) (ap₂ (λ (t : Entry ℕ) (s : Slot). pushed_again s t (taken c t s.slice)) same.0 same.1) w.follows

  not_none : HasNoTurn slots start c e → ⊥
  not_none w = no_next slots c turn slot h w.none

  within-view : (k : ℕ) (r : Result) → IsResult slot.setting start r → number r ≡ done_by c turn + k → k < slot.slice → EndsWithin slots start c e ⊎ (WaitsAgain slots start c e ⊎ HasNoTurn slots start c e) → Follows slots start c turn k r e
  within-view k r p n l (inl w) = same_within k r p n w
  within-view k r p n l (inr (inl w)) = absurd (not_again k r p n l w)
  within-view k r p n l (inr (inr w)) = absurd (not_none w)

  again-view : GoesOnUntil slot.setting start (done_by c turn + slot.slice) → EndsWithin slots start c e ⊎ (WaitsAgain slots start c e ⊎ HasNoTurn slots start c e) → ScheduleEndsFrom slots start (pushed_again slot turn (taken c turn slot.slice)) e
  again-view until (inl w) = absurd (not_within until w)
  again-view until (inr (inl w)) = same_again w
  again-view until (inr (inr w)) = absurd (not_none w)

none-view : (slots : List Slot) (start : List Literal) (c : Course) (e : End) → c.turns ≡ [] → EndsWithin slots start c e ⊎ (WaitsAgain slots start c e ⊎ HasNoTurn slots start c e) → e ≡ (if c.exhausted then empty c.total else limit c.total)
none-view slots start c e none (inl w) = absurd (no_next slots c w.turn w.slot w.next none)
none-view slots start c e none (inr (inl w)) = absurd (no_next slots c w.turn w.slot w.next none)
none-view slots start c e none (inr (inr w)) = w.end_is

-- from the course to which the next turn leads, the schedule ends as from that before
after-view : (slots : List Slot) (start : List Literal) (c next : Course) (e : End) → LeadsTo slots start c next → EndsWithin slots start c e ⊎ (WaitsAgain slots start c e ⊎ HasNoTurn slots start c e) → ScheduleEndsFrom slots start next e
after-view slots start _ _ e (has_none_left c turn slot k h l p) w = within-view slots start c e turn slot h k (gave_up (done_by c turn + k)) p refl l w
after-view slots start _ _ e (is_at_limit c turn slot k h l p) w = within-view slots start c e turn slot h k (stopped (done_by c turn + k)) p refl l w
after-view slots start _ _ e (goes_on c turn slot h until) w = again-view slots start c e turn slot h until w

pub one_end : (slots : List Slot) (start : List Literal) (c : Course) (e e' : End) → ScheduleEndsFrom slots start c e → ScheduleEndsFrom slots start c e' → e ≡ e'
one_end slots start _ _ e' (closes c turn slot k h l p) d' = sym (within-view slots start c e' turn slot h k (proved (done_by c turn + k)) p refl l (view slots start c e' d'))
one_end slots start _ _ e' (ends_after c next e t d) d' = one_end slots start next e e' d (after-view slots start c next e' t (view slots start c e' d'))
one_end slots start _ _ e' (no_turn_left c none) d' = sym (none-view slots start c e' none (view slots start c e' d'))

-- CLOSED, THEN PROVED

no_closed : (b : Bool) (m block total : ℕ) → (if b then empty m else limit m) ≡ closed block total → ⊥
no_closed true m block total h = absurd (cc)
no_closed false m block total h = absurd (cc)

closed_block : (a b m n : ℕ) → closed a m ≡ closed b n → a ≡ b
closed_block a b m n h = cc

closed_from : (slots : List Slot) (start : List Literal) (c : Course) (e : End) (block total : ℕ) → ScheduleEndsFrom slots start c e → e ≡ closed block total → IsProvedRun slots start block
closed_from slots start _ _ block total (closes c turn slot k h l p) f =
    let same = closed_block turn.command block (c.total + k) total f in
    (slot, ap (slice_get slots) (sym same) ∙ h.its_slot, (done_by c turn + k, p))
closed_from slots start _ _ block total (ends_after c next e t d) f = closed_from slots start next e block total d f
closed_from slots start _ _ block total (no_turn_left c none) f = absurd (no_closed c.exhausted c.total block total f)

pub closed_proved : ClosedRunsAreProved
closed_proved slots start block total d = closed_from slots start (opened slots) (closed block total) block total d refl

-- PROVED, THEN CLOSED

-- something holds of one of the turns
abbrev Among : (Entry ℕ → Type 0) → List (Entry ℕ) → Type 0
Among P [] = ⊥
Among P (t ∷ ts) = P t ⊎ Among P ts

abbrev Waits : ℕ → List (Entry ℕ) → Type 0
Waits block turns = Among (λ u. u.command ≡ block) turns

-- the numbers of turns ascend from the first number on, and are below the second
abbrev AreSpaced : ℕ → List (Entry ℕ) → ℕ → Type 0
AreSpaced m [] n = m ≤ n
AreSpaced m (t ∷ ts) n = (m ≤ t.number) × AreSpaced (suc t.number) ts n

spaced-lower : (m l : ℕ) (ts : List (Entry ℕ)) (n : ℕ) → l ≤ m → AreSpaced m ts n → AreSpaced l ts n
spaced-lower m l [] n h s = omega (arith, h, s)
spaced-lower m l (t ∷ ts) n h s = (omega (arith, h, s.0), s.1)

spaced-start : (k : ℕ) (slots : List Slot) → AreSpaced k (turns_from k slots) (k + length slots)
spaced-start k [] = omega arith
spaced-start k (s ∷ slots) = (omega arith, subst (AreSpaced (suc k) (turns_from (suc k) slots)) (omega arith) (spaced-start (suc k) slots))

spaced-without : (number m : ℕ) (ts : List (Entry ℕ)) (n : ℕ) → AreSpaced m ts n → AreSpaced m (without_number number ts) n
spaced-without number m [] n s = s
spaced-without number m (t ∷ ts) n s = by_test (not (t.number == number)) (spaced-without number (suc t.number) ts n s.1)
  where
    by_test : (b : Bool) → AreSpaced (suc t.number) (without_number number ts) n → AreSpaced m (cond b (t ∷ without_number number ts) (without_number number ts)) n
    by_test true rest = (s.0, rest)
    by_test false rest = spaced-lower (suc t.number) m (without_number number ts) n (omega (arith, s.0)) rest

spaced-last : (m : ℕ) (ts : List (Entry ℕ)) (n : ℕ) (t : Entry ℕ) → t.number ≡ n → AreSpaced m ts n → AreSpaced m (ts ++ t ∷ []) (n + 1)
spaced-last m [] n t e s = (omega (arith, e, s), omega (arith, e))
spaced-last m (u ∷ ts) n t e s = (s.0, spaced-last (suc u.number) ts n t e s.1)

spaced-among : (m : ℕ) (ts : List (Entry ℕ)) (n : ℕ) (t : Entry ℕ) → AreSpaced m ts n → Among (λ u. u ≡ t) ts → m ≤ t.number
spaced-among m [] n t s h = absurd h
spaced-among m (u ∷ ts) n t s (inl e) = omega (arith, s.0, ap (λ (w : Entry ℕ). w.number) e)
spaced-among m (u ∷ ts) n t s (inr h) = let l = spaced-among (suc u.number) ts n t s.1 h in omega (arith, l, s.0)

-- turns with later numbers stay
without-later : (number m : ℕ) (ts : List (Entry ℕ)) (n : ℕ) → number < m → AreSpaced m ts n → without_number number ts ≡ ts
without-later number m [] n l s = refl
without-later number m (t ∷ ts) n l s =
    ap (λ b. cond (not b) (t ∷ without_number number ts) (without_number number ts)) (ne_eqb t.number number (λ e. omega (arith, e, l, s.0)))
    ∙ ap (λ us. t ∷ us) (without-later number (suc t.number) ts n (omega (arith, l, s.0)) s.1)

-- the turns of other runs stay where one is taken
waits-without : (block m : ℕ) (ts : List (Entry ℕ)) (n : ℕ) (t : Entry ℕ) → AreSpaced m ts n → Among (λ u. u ≡ t) ts → block ≢ t.command → Waits block ts → Waits block (without_number t.number ts)
waits-without block m [] n t s there other h = h
waits-without block m (u ∷ ts) n t s (inl e) other (inl c) = absurd (other (sym c ∙ ap (λ (w : Entry ℕ). w.command) e))
waits-without block m (u ∷ ts) n t s (inl e) other (inr h) =
    let same : (u.number == t.number) ≡ true = ap (λ (w : Entry ℕ). w.number == t.number) e ∙ same_number t.number in
    subst (λ b. Waits block (cond (not b) (u ∷ without_number t.number ts) (without_number t.number ts))) (sym same)
    (subst (Waits block) (sym (without-later t.number (suc u.number) ts n (omega (arith, ap (λ (w : Entry ℕ). w.number) e)) s.1)) h)
  where
    same_number : (x : ℕ) → (x == x) ≡ true
    same_number x = eq-eqb x x refl
waits-without block m (u ∷ ts) n t s (inr there) other h =
    let later = spaced-among (suc u.number) ts n t s.1 there in
    subst (λ b. Waits block (cond (not b) (u ∷ without_number t.number ts) (without_number t.number ts))) (sym (ne_eqb u.number t.number (λ e. omega (arith, e, later)))) (stays (λ k. waits-without block (suc u.number) ts n t s.1 there other k) h)
  where
    stays : (Waits block ts → Waits block (without_number t.number ts)) → Waits block (u ∷ ts) → Waits block (u ∷ without_number t.number ts)
    stays rest (inl c) = inl c
    stays rest (inr k) = inr (rest k)

among-last : (P : Entry ℕ → Type 0) (ts : List (Entry ℕ)) (t : Entry ℕ) → Among P ts → Among P (ts ++ t ∷ [])
among-last P [] t h = absurd h
among-last P (u ∷ ts) t (inl h) = inl h
among-last P (u ∷ ts) t (inr h) = inr (among-last P ts t h)

among-new : (P : Entry ℕ → Type 0) (ts : List (Entry ℕ)) (t : Entry ℕ) → P t → Among P (ts ++ t ∷ [])
among-new P [] t h = inl h
among-new P (u ∷ ts) t h = inr (among-new P ts t h)

-- the next turn is one of the turns
first-among : (q : Entry ℕ) (ps : List (Entry ℕ)) → (q ≡ first_waiting q ps) ⊎ Among (λ u. u ≡ first_waiting q ps) ps
first-among q [] = inl refl
first-among q (p ∷ ps) = by_test (comes_before p q) (first-among p ps) (first-among q ps)
  where
    later : (q ≡ first_waiting q ps) ⊎ Among (λ u. u ≡ first_waiting q ps) ps → (q ≡ first_waiting q ps) ⊎ Among (λ u. u ≡ first_waiting q ps) (p ∷ ps)
    later (inl e) = inl e
    later (inr h) = inr (inr h)

    by_test : (b : Bool) → (p ≡ first_waiting p ps) ⊎ Among (λ u. u ≡ first_waiting p ps) ps → (q ≡ first_waiting q ps) ⊎ Among (λ u. u ≡ first_waiting q ps) ps → (q ≡ first_waiting (if b then p else q) ps) ⊎ Among (λ u. u ≡ first_waiting (if b then p else q) ps) (p ∷ ps)
    by_test true (inl e) other = inr (inl e)
    by_test true (inr h) other = inr (inr h)
    by_test false one other = later other

next-among : (ts : List (Entry ℕ)) (t : Entry ℕ) → next_command ts ≡ Some t → Among (λ u. u ≡ t) ts
next-among [] t e = absurd (cc)
next-among (q ∷ ps) t e = subst (λ (w : Entry ℕ). Among (λ u. u ≡ w) (q ∷ ps)) (same_Some (first_waiting q ps) t e) (here (first-among q ps))
  where
    here : (q ≡ first_waiting q ps) ⊎ Among (λ u. u ≡ first_waiting q ps) ps → Among (λ u. u ≡ first_waiting q ps) (q ∷ ps)
    here (inl h) = inl h
    here (inr h) = inr h

-- the run has a result and isn't proved
abbrev HasLeft : Slot → List Literal → Type 0
HasLeft slot start = (n : ℕ) × (IsExhausted slot.setting start n ⊎ IsStopped slot.setting start n)

not_proved : (slot : Slot) (start : List Literal) (n : ℕ) → HasLeft slot start → IsProved slot.setting start n → ⊥
not_proved slot start n (m, inl h) p = let e = one_result slot.setting start (gave_up m) (proved n) h p in absurd (cc)
not_proved slot start n (m, inr h) p = let e = one_result slot.setting start (stopped m) (proved n) h p in absurd (cc)

-- each run waits for a turn or has left
record Keeps (slots : List Slot) (start : List Literal) (c : Course) : Type 0 where
  spaced : AreSpaced 0 c.turns c.pushes
  each : (block : ℕ) (slot : Slot) → slice_get slots block ≡ Some slot → Waits block c.turns ⊎ HasLeft slot start

all_wait : (k : ℕ) (slots : List Slot) (block : ℕ) (slot : Slot) → slice_get slots block ≡ Some slot → Waits (k + block) (turns_from k slots)
all_wait k [] block slot e = absurd (cc)
all_wait k (s ∷ slots) zero slot e = inl (omega arith)
all_wait k (s ∷ slots) (suc block) slot e = inr (subst (λ n. Waits n (turns_from (suc k) slots)) (omega arith) (all_wait (suc k) slots block slot e))

keeps-start : (slots : List Slot) (start : List Literal) → Keeps slots start (opened slots)
keeps-start slots start = record {
  spaced = subst (AreSpaced 0 (turns_from 0 slots)) (omega arith) (spaced-start 0 slots);
  each = λ block slot e. inl (subst (λ n. Waits n (turns_from 0 slots)) (omega arith) (all_wait 0 slots block slot e));
}

module _ (slots : List Slot) (start : List Literal) (c : Course) (turn : Entry ℕ) (slot : Slot) (h : IsNextTurn slots c turn slot) (keeps : Keeps slots start c) where
  there : Among (λ u. u ≡ turn) c.turns
  there = next-among c.turns turn h.is_next

  keeps-left : (k : ℕ) → HasLeft slot start → Keeps slots start (taken c turn k)
  keeps-left k left = record {
    spaced = spaced-without turn.number 0 c.turns c.pushes keeps.spaced;
    each = λ block s e. by_block block s e (cases_eq block turn.command) (keeps.each block s e);
  }
    where
      by_block : (block : ℕ) (s : Slot) → slice_get slots block ≡ Some s → (block ≡ turn.command) ⊎ (block ≢ turn.command) → Waits block c.turns ⊎ HasLeft s start → Waits block (without_number turn.number c.turns) ⊎ HasLeft s start
      by_block block s e (inl here) was = inr (subst (λ (x : Slot). HasLeft x start) (same_Some slot s (sym h.its_slot ∙ ap (slice_get slots) (sym here) ∙ e)) left)
      by_block block s e (inr other) (inl waits) = inl (waits-without block 0 c.turns c.pushes turn keeps.spaced there other waits)
      by_block block s e (inr other) (inr gone) = inr gone

  keeps-again : Keeps slots start (pushed_again slot turn (taken c turn slot.slice))
  keeps-again = record {
    spaced = spaced-last 0 (without_number turn.number c.turns) c.pushes _ refl (spaced-without turn.number 0 c.turns c.pushes keeps.spaced);
    each = λ block s e. by_block block s e (cases_eq block turn.command) (keeps.each block s e);
  }
    where
      later : Entry ℕ
      later = record { due = c.total + slot.slice + slot.slice; number = c.pushes; command = turn.command }

      by_block : (block : ℕ) (s : Slot) → slice_get slots block ≡ Some s → (block ≡ turn.command) ⊎ (block ≢ turn.command) → Waits block c.turns ⊎ HasLeft s start → Waits block (without_number turn.number c.turns ++ (record { due = c.total + slot.slice + slot.slice; number = c.pushes; command = turn.command }) ∷ []) ⊎ HasLeft s start
      by_block block s e (inl here) was = inl (among-new (λ u. u.command ≡ block) (without_number turn.number c.turns) _ (sym here))
      by_block block s e (inr other) (inl waits) = inl (among-last (λ u. u.command ≡ block) (without_number turn.number c.turns) _ (waits-without block 0 c.turns c.pushes turn keeps.spaced there other waits))
      by_block block s e (inr other) (inr gone) = inr gone

keeps-exhausted : (slots : List Slot) (start : List Literal) (c : Course) → Keeps slots start c → Keeps slots start (exhausted_by c)
keeps-exhausted slots start c k = record { spaced = k.spaced; each = k.each }

keeps-after : (slots : List Slot) (start : List Literal) (c next : Course) → LeadsTo slots start c next → Keeps slots start c → Keeps slots start next
keeps-after slots start _ _ (has_none_left c turn slot k h l p) keeps = keeps-exhausted slots start (taken c turn k) (keeps-left slots start c turn slot h keeps k (done_by c turn + k, inl p))
keeps-after slots start _ _ (is_at_limit c turn slot k h l p) keeps = keeps-left slots start c turn slot h keeps k (done_by c turn + k, inr p)
keeps-after slots start _ _ (goes_on c turn slot h until) keeps = keeps-again slots start c turn slot h keeps

proved_from : (slots : List Slot) (start : List Literal) (c : Course) (e : End) → ScheduleEndsFrom slots start c e → Keeps slots start c → (block : ℕ) → IsProvedRun slots start block → IsClosedEnd e
proved_from slots start _ _ (closes c turn slot k h l p) keeps block run = (turn.command, c.total + k, refl)
proved_from slots start _ _ (ends_after c next e t d) keeps block run = proved_from slots start next e d (keeps-after slots start c next t keeps) block run
proved_from slots start _ _ (no_turn_left c none) keeps block run = absurd (by_kind (keeps.each block run.0 run.1))
  where
    by_kind : Waits block c.turns ⊎ HasLeft run.0 start → ⊥
    by_kind (inl waits) = let w : Waits block [] = subst (Waits block) none waits in w
    by_kind (inr left) = not_proved run.0 start run.2.0 left run.2.1

pub closed_exactly : ClosedExactlyWhereProved
closed_exactly slots start e d = (
  λ h. (h.0, closed_proved slots start h.0 h.1 (subst (ScheduleEnds slots start) h.2 d)),
  λ run. proved_from slots start (opened slots) e d (keeps-start slots start) run.0 run.1,
)
