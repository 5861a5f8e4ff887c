-- Turns and runs that stand for the course of a schedule.
use Rattle.std.specs.Prelude.{◌≡◌, ◌≢◌, ◌<◌, ◌≤◌, ◌+◌, ◌*◌, ℕ, zero, suc, Bool, true, false, List, [], ◌∷◌, ◌++◌, length, map, sum, take, slice_get, slice_index, slice_set, get_or, Option, Some, None, refl, if◌then◌else◌}
use Rattle.std.proofs.Common.{sym, ap, ap₂, ◌∙◌, subst, arith, length-append}
use Rattle.std.proofs.lemmas.List.{length-map, length-set, length-take-le, get_or-set_same, get_or-set_other, take_more}
use Rattle.std.proofs.lemmas.List.Sums.{sum_by-set, sum_by-le, sum_by-cons}
use Rattle.std.proofs.lemmas.Option.{slice_get_within, get_or_from_slice_get}
use Rattle.stt_core.proofs.ListLaws.{map-append}
use Rattle.tableau_calculus.specs.Literals.{Literal}
use Rattle.tableau_calculus.specs.Each.{Each}
use Rattle.search_spec.specs.State.{Setting}
use Rattle.search_spec.specs.Queue.{next_command, without_number}
use Rattle.search_spec.specs.Result.{GoesOnUntil, IsProved, IsExhausted, IsStopped}
use Rattle.command_queue.specs.declared.entry.Entry.{Entry}
use Rattle.command_queue.specs.Queue.{Queue, TakesEntry, AddsEntry}
use Rattle.prover_state.proofs.EachLaws.{All-from_each, each-weaker, each-both, each-without, each-last, each-at}
use Rattle.mode_schedule.specs.declared.turns.Turn.{Turn}
use Rattle.mode_schedule.specs.declared.Block.{Block}
use Rattle.mode_schedule.specs.Grammar.{most_blocks}
use Rattle.mode_schedule.specs.Turns.{Slot, Course, turns_from, opened, IsNextTurn, taken, pushed_again, exhausted_by, closed, empty, limit, LeadsTo, has_none_left, is_at_limit, goes_on, closes, ends_after, no_turn_left, ScheduleEnds}
use Rattle.mode_schedule.specs.Ends.{IsSpentAt, spends_here, spends_later, Spends, IsLeft}
use Rattle.mode_schedule.specs.declared.turned.Turned.{Turned}
use Rattle.mode_schedule.specs.declared.turned.Turned.TheVariants.{Closed, HasNoneLeft, IsAtLimit, Spent, Paused}
use Rattle.mode_schedule.specs.Internal.Turning.{IsRunPlace, IsRunThere, IsWithinTurn, TurnEnds, TookPlace, WherePaused, WhereClosed}
use Rattle.mode_schedule.specs.Internal.Standing.{waiting_of, first_entries, AreNone, IsFresh, HaveOwnBlocks, IsTurn, most_commands, StandsForCourse, AreSlots, turns_left}
use Rattle.mode_schedule.proofs.QueueLaws.{next-taken, without-taken}

-- LISTS

got_set : {X : Type 0} (xs : List X) (i : ℕ) (x v : X) → slice_get xs i ≡ Some x → slice_get (slice_set xs i v) i ≡ Some v
got_set [] i x v e = absurd (cc)
got_set (y ∷ xs) zero x v e = refl
got_set (y ∷ xs) (suc i) x v e = got_set xs i x v e

got_other : {X : Type 0} (xs : List X) (i j : ℕ) (v : X) → j ≢ i → slice_get (slice_set xs i v) j ≡ slice_get xs j
got_other [] i j v h = refl
got_other (y ∷ xs) zero zero v h = absurd (h refl)
got_other (y ∷ xs) zero (suc j) v h = refl
got_other (y ∷ xs) (suc i) zero v h = refl
got_other (y ∷ xs) (suc i) (suc j) v h = got_other xs i j v (λ e. h (ap suc e))

each-set : {X : Type 0} (P : X → Type 0) (xs : List X) (i : ℕ) (v : X) → Each P xs → P v → Each P (slice_set xs i v)
each-set P [] i v h k = tt
each-set P (x ∷ xs) zero v h k = (k, h.1)
each-set P (x ∷ xs) (suc i) v h k = (h.0, each-set P xs i v h.1 k)

each-middle : {X : Type 0} (P : X → Type 0) (xs ys : List X) (x : X) → Each P (xs ++ x ∷ ys) → P x
each-middle P [] ys x h = h.0
each-middle P (y ∷ xs) ys x h = each-middle P xs ys x h.1

-- turns of blocks of their own

apart-without : (xs ys : List (Entry Turn)) (e : Entry Turn) → HaveOwnBlocks (xs ++ e ∷ ys) → HaveOwnBlocks (xs ++ ys)
apart-without [] ys e h = h.1
apart-without (x ∷ xs) ys e h = (each-without (λ (y : Entry Turn). y.command.block ≢ x.command.block) xs e ys h.0, apart-without xs ys e h.1)

apart-others : (xs ys : List (Entry Turn)) (e : Entry Turn) → HaveOwnBlocks (xs ++ e ∷ ys) → Each (λ (y : Entry Turn). y.command.block ≢ e.command.block) (xs ++ ys)
apart-others [] ys e h = h.0
apart-others (x ∷ xs) ys e h = ((λ f. each-middle (λ (y : Entry Turn). y.command.block ≢ x.command.block) xs ys e h.0 (sym f)), apart-others xs ys e h.1)

apart-last : (xs : List (Entry Turn)) (e : Entry Turn) → HaveOwnBlocks xs → Each (λ (y : Entry Turn). y.command.block ≢ e.command.block) xs → HaveOwnBlocks (xs ++ e ∷ [])
apart-last [] e h k = (tt, tt)
apart-last (x ∷ xs) e h k = (each-last (λ (y : Entry Turn). y.command.block ≢ x.command.block) xs e h.0 (λ f. k.0 (sym f)), apart-last xs e h.1 k.1)

-- the first turns

pub first-last : (k : ℕ) (slices : List ℕ) (slice : ℕ) → first_entries k (slices ++ slice ∷ []) ≡ first_entries k slices ++ (record { due = slice; number = k + length slices; command = record { block = k + length slices; slice = slice } }) ∷ []
first-last k [] slice = ap (λ n. (record { due = slice; number = n; command = record { block = n; slice = slice } }) ∷ []) (omega arith)
first-last k (s ∷ slices) slice =
    ap (λ es. (record { due = s; number = k; command = record { block = k; slice = s } }) ∷ es)
    (first-last (suc k) slices slice ∙ ap (λ n. first_entries (suc k) slices ++ (record { due = slice; number = n; command = record { block = n; slice = slice } }) ∷ []) (omega arith))

pub none-last : {S : Type 0} (places : List (Option S)) (place : Option S) → AreNone places → place ≡ None → AreNone (places ++ place ∷ [])
none-last [] place h e = (e, tt)
none-last (p ∷ places) place h e = (h.0, none-last places place h.1 e)

first-above : (k : ℕ) (slices : List ℕ) → Each (λ (e : Entry Turn). k ≤ e.command.block) (first_entries k slices)
first-above k [] = tt
first-above k (s ∷ slices) = (omega arith, each-weaker (λ (e : Entry Turn). suc k ≤ e.command.block) (λ (e : Entry Turn). k ≤ e.command.block) (λ e h. omega (arith, h)) (first_entries (suc k) slices) (first-above (suc k) slices))

first-apart : (k : ℕ) (slices : List ℕ) → HaveOwnBlocks (first_entries k slices)
first-apart k [] = tt
first-apart k (s ∷ slices) = (each-weaker (λ (e : Entry Turn). suc k ≤ e.command.block) (λ (e : Entry Turn). e.command.block ≢ k) (λ e h f. omega (arith, h, f)) (first_entries (suc k) slices) (first-above (suc k) slices), first-apart (suc k) slices)

first-turns : (k : ℕ) (slots : List Slot) → turns_from k slots ≡ map waiting_of (first_entries k (map (λ (s : Slot). s.slice) slots))
first-turns k [] = refl
first-turns k (s ∷ slots) = ap (λ ts. (record { due = s.slice; number = k; command = k }) ∷ ts) (first-turns (suc k) slots)

none_at : {S : Type 0} (places : List (Option S)) (i : ℕ) → AreNone places → i < length places → slice_get places i ≡ Some None
none_at [] i h l = absurd (omega (arith, l))
none_at (p ∷ places) zero h l = ap Some h.0
none_at (p ∷ places) (suc i) h l = none_at places i h.1 (omega (arith, l))

zero_at : (slots : List Slot) (i : ℕ) → slice_index (map (λ (s : Slot). 0) slots) i ≡ 0
zero_at [] i = refl
zero_at (s ∷ slots) zero = refl
zero_at (s ∷ slots) (suc i) = zero_at slots i

sum_none : (slots : List Slot) → sum (map (λ (s : Slot). 0) slots) ≡ 0
sum_none [] = refl
sum_none (s ∷ slots) = omega (arith, sum_by-cons (λ (n : ℕ). n) 0 (map (λ (t : Slot). 0) slots), sum_none slots)

few_none : (slots : List Slot) → Each (λ n. n ≤ most_commands) (map (λ (s : Slot). 0) slots)
few_none [] = tt
few_none (s ∷ slots) = (omega arith, few_none slots)

module _ {S : Type 0} (At : Setting → ℕ → S → Type 0) (slots : List Slot) (start : List Literal) where
  each-first : (runs : List (Option S)) → AreNone runs → length runs ≡ length slots → (k : ℕ) (rest : List Slot) → ((i : ℕ) → slice_get slots (k + i) ≡ slice_get rest i)
      → Each (IsTurn At slots (map (λ (s : Slot). 0) slots) runs) (first_entries k (map (λ (s : Slot). s.slice) rest))
  each-first runs none places k [] same = tt
  each-first runs none places k (s ∷ rest) same =
      let here : slice_get slots k ≡ Some s = ap (slice_get slots) (omega arith) ∙ same 0 in (
        record {
          slot = s;
          its_slot = here;
          slice_is = refl;
          place = None;
          its_place = none_at runs k none (omega (arith, places, slice_get_within slots k s here));
          held = zero_at slots k;
        },
        each-first runs none places (suc k) rest (λ i. ap (slice_get slots) (omega arith) ∙ same (suc i)),
      )

  pub stands-fresh : (entries : List (Entry Turn)) (pushes total : ℕ) (exhausted : Bool) (runs : List (Option S)) → IsFresh (map (λ (s : Slot). s.slice) slots) entries pushes total exhausted runs → StandsForCourse At slots start entries pushes total exhausted runs
  stands-fresh entries pushes total exhausted runs f =
      let counted : length (map (λ (s : Slot). s.slice) slots) ≡ length slots = length-map slots (λ (s : Slot). s.slice) in
      let places : length runs ≡ length slots = f.places ∙ counted in
      record {
        course = opened slots;
        turns_are = first-turns 0 slots ∙ ap (map waiting_of) (sym f.entries_are);
        pushes_are = sym (f.pushes_are ∙ counted);
        total_is = sym f.total_is;
        exhausted_is = sym f.exhausted_is;
        reaches = λ e d. d;
        spends = λ n d. d;
        apart = subst HaveOwnBlocks (sym f.entries_are) (first-apart 0 (map (λ (s : Slot). s.slice) slots));
        each = subst (Each (IsTurn At slots (map (λ (s : Slot). 0) slots) runs)) (sym f.entries_are) (each-first runs f.none places 0 slots (λ i. ap (slice_get slots) (omega arith)));
        sum_is = sum_none slots ∙ sym f.total_is;
        bounded = few_none slots;
        counted = length-map slots (λ (s : Slot). 0);
        places = places;
        few = omega (arith, f.pushes_are, counted);
      }

  pub fresh-left : (entries : List (Entry Turn)) (pushes total : ℕ) (exhausted : Bool) (runs : List (Option S)) → IsFresh (map (λ (s : Slot). s.slice) slots) entries pushes total exhausted runs → length entries ≡ length slots
  fresh-left entries pushes total exhausted runs f = ap length f.entries_are ∙ go 0 slots
    where
      go : (k : ℕ) (rest : List Slot) → length (first_entries k (map (λ (s : Slot). s.slice) rest)) ≡ length rest
      go k [] = refl
      go k (s ∷ rest) = ap suc (go (suc k) rest)

  -- A TURN

  module _ {R : Type 0} (old mid : Queue Turn R) (e : Entry Turn) (total : ℕ) (exhausted : Bool) (runs : List (Option S)) (stands : StandsForCourse At slots start old.entries old.pushes total exhausted runs) (takes : TakesEntry old mid e) where
    abbrev c : Course
    c = stands.course

    abbrev block : ℕ
    block = e.command.block

    parted : Each (IsTurn At slots c.done runs) (takes.before ++ e ∷ takes.behind)
    parted = subst (Each (IsTurn At slots c.done runs)) takes.stands stands.each

    pub its-turn : IsTurn At slots c.done runs e
    its-turn = each-middle (IsTurn At slots c.done runs) takes.before takes.behind e parted

    abbrev slot : Slot
    slot = its-turn.slot

    abbrev before : ℕ
    before = slice_index c.done block

    next : IsNextTurn slots c (waiting_of e) slot
    next = record { is_next = ap next_command stands.turns_are ∙ next-taken old mid e takes; its_slot = its-turn.its_slot }

    apart_parted : HaveOwnBlocks (takes.before ++ e ∷ takes.behind)
    apart_parted = subst HaveOwnBlocks takes.stands stands.apart

    apart_left : HaveOwnBlocks mid.entries
    apart_left = subst HaveOwnBlocks (sym takes.leaves) (apart-without takes.before takes.behind e apart_parted)

    others : Each (λ (y : Entry Turn). y.command.block ≢ block) mid.entries
    others = subst (Each (λ (y : Entry Turn). y.command.block ≢ block)) (sym takes.leaves) (apart-others takes.before takes.behind e apart_parted)

    each_left : Each (IsTurn At slots c.done runs) mid.entries
    each_left = subst (Each (IsTurn At slots c.done runs)) (sym takes.leaves) (each-without (IsTurn At slots c.done runs) takes.before e takes.behind parted)

    turns_left-here : without_number e.number c.turns ≡ map waiting_of mid.entries
    turns_left-here = ap (without_number e.number) stands.turns_are ∙ without-taken old mid e takes

    in_slots : block < length slots
    in_slots = slice_get_within slots block slot its-turn.its_slot

    pub in_runs : block < length runs
    in_runs = omega (arith, in_slots, stands.places)

    pub one-less : length old.entries ≡ length mid.entries + 1
    one-less = ap length takes.stands ∙ length-append takes.before (e ∷ takes.behind) ∙ sym (ap (λ n. n + 1) (ap length takes.leaves ∙ length-append takes.before takes.behind) ∙ omega arith)

    -- the run has carried out more commands
    module _ (commands : ℕ) (good : AreSlots slots) (within : before + commands ≤ slot.setting.mode.commands) where
      abbrev done : List ℕ
      done = slice_set c.done block (before + commands)

      few_commands : before + commands ≤ most_commands
      few_commands = let l = each-at (λ (s : Slot). s.setting.mode.commands ≤ most_commands) slots block slot good.limits its-turn.its_slot in omega (arith, l, within)

      bounded_now : Each (λ n. n ≤ most_commands) done
      bounded_now = each-set (λ n. n ≤ most_commands) c.done block (before + commands) stands.bounded few_commands

      sum_now : sum done ≡ total + commands
      sum_now = omega (arith, sum_by-set (λ (n : ℕ). n) c.done block (before + commands) 0 (omega (arith, in_slots, stands.counted)), stands.sum_is)

      pub fits : total + commands ≤ most_blocks * most_commands
      fits =
          let bound : sum done ≤ length done * most_commands = sum_by-le (λ (n : ℕ). n) most_commands done (All-from_each (λ n. n ≤ most_commands) done bounded_now) in
          let long : length done ≡ length slots = length-set c.done block (before + commands) ∙ stands.counted in
          omega (arith, bound, long, sum_now, good.few)

      -- what holds of the others whatever stands at the place
      module _ (place : Option S) where
        abbrev runs_now : List (Option S)
        runs_now = slice_set runs block place

        stays : (x : Entry Turn) → (x.command.block ≢ block) × IsTurn At slots c.done runs x → IsTurn At slots done runs_now x
        stays x (other, t) = record {
          slot = t.slot;
          its_slot = t.its_slot;
          slice_is = t.slice_is;
          place = t.place;
          its_place = got_other runs block x.command.block place other ∙ t.its_place;
          held = subst (λ n. IsRunPlace (At t.slot.setting) n t.place) (sym (get_or-set_other c.done block x.command.block (before + commands) 0 other)) t.held;
        }

        each_now : Each (IsTurn At slots done runs_now) mid.entries
        each_now = each-weaker (λ x. (x.command.block ≢ block) × IsTurn At slots c.done runs x) (IsTurn At slots done runs_now) stays mid.entries (each-both (λ (y : Entry Turn). y.command.block ≢ block) (IsTurn At slots c.done runs) mid.entries others each_left)

        pub placed-now : slice_get runs_now block ≡ Some place
        placed-now = got_set runs block its-turn.place place its-turn.its_place

        pub stands-exhausted : IsWithinTurn slot.slice before (before + commands) (IsExhausted slot.setting start) → StandsForCourse At slots start mid.entries mid.pushes (total + commands) true runs_now
        stands-exhausted t =
            let k : t.k ≡ commands = omega (arith, t.carried) in
            let leads : LeadsTo slots start c (exhausted_by (taken c (waiting_of e) commands)) = has_none_left c (waiting_of e) slot commands next (omega (arith, t.within, k)) t.ends in
            record {
              course = exhausted_by (taken c (waiting_of e) commands);
              turns_are = turns_left-here;
              pushes_are = stands.pushes_are ∙ sym takes.pushes;
              total_is = ap (λ n. n + commands) stands.total_is;
              exhausted_is = refl;
              reaches = λ x d. stands.reaches x (ends_after c _ x leads d);
              spends = λ n d. stands.spends n (spends_later c _ n leads d);
              apart = apart_left;
              each = each_now;
              sum_is = sum_now;
              bounded = bounded_now;
              counted = length-set c.done block (before + commands) ∙ stands.counted;
              places = length-set runs block place ∙ stands.places;
              few = omega (arith, stands.few, takes.pushes);
            }

        pub stands-stopped : IsWithinTurn slot.slice before (before + commands) (IsStopped slot.setting start) → StandsForCourse At slots start mid.entries mid.pushes (total + commands) exhausted runs_now
        stands-stopped t =
            let k : t.k ≡ commands = omega (arith, t.carried) in
            let leads : LeadsTo slots start c (taken c (waiting_of e) commands) = is_at_limit c (waiting_of e) slot commands next (omega (arith, t.within, k)) t.ends in
            record {
              course = taken c (waiting_of e) commands;
              turns_are = turns_left-here;
              pushes_are = stands.pushes_are ∙ sym takes.pushes;
              total_is = ap (λ n. n + commands) stands.total_is;
              exhausted_is = stands.exhausted_is;
              reaches = λ x d. stands.reaches x (ends_after c _ x leads d);
              spends = λ n d. stands.spends n (spends_later c _ n leads d);
              apart = apart_left;
              each = each_now;
              sum_is = sum_now;
              bounded = bounded_now;
              counted = length-set c.done block (before + commands) ∙ stands.counted;
              places = length-set runs block place ∙ stands.places;
              few = omega (arith, stands.few, takes.pushes);
            }

        pub stands-closed : IsWithinTurn slot.slice before (before + commands) (IsProved slot.setting start) → ScheduleEnds slots start (closed block (total + commands))
        stands-closed t =
            let k : t.k ≡ commands = omega (arith, t.carried) in
            subst (λ n. ScheduleEnds slots start (closed block (n + commands))) stands.total_is
            (stands.reaches (closed block (c.total + commands)) (closes c (waiting_of e) slot commands next (omega (arith, t.within, k)) t.ends))

        pub stands-spent : (conflicts : ℕ) → IsWithinTurn slot.slice before (before + commands) (λ n. IsSpentAt slot.setting start n conflicts) → Spends slots start conflicts
        stands-spent conflicts t =
            let k : t.k ≡ commands = omega (arith, t.carried) in
            stands.spends conflicts (spends_here c (waiting_of e) slot commands conflicts next (omega (arith, t.within, k)) t.ends)

        pub left-closed : (Left : Setting → ℕ → S → Type 0) → IsWithinTurn slot.slice before (before + commands) (IsProved slot.setting start) → IsRunThere (Left slot.setting) (before + commands) place → IsLeft Left slots start runs_now block
        left-closed Left t there = record {
          slot = slot;
          its_slot = its-turn.its_slot;
          commands = before + commands;
          proved = t.ends;
          run = there.run;
          its_run = placed-now ∙ ap Some there.place_is;
          left = there.holds;
        }

        pub stands-again : (new : Queue Turn R) → AddsEntry mid new 1 (total + commands + e.command.slice) e.command → (before + commands ≡ before + slot.slice) × GoesOnUntil slot.setting start (before + commands) → IsRunThere (At slot.setting) (before + commands) place
            → StandsForCourse At slots start new.entries new.pushes (total + commands) exhausted runs_now
        stands-again new adds t there =
            let k : commands ≡ slot.slice = omega (arith, t.0) in
            let some : 0 < slot.slice = each-at (λ (s : Slot). 0 < s.slice) slots block slot good.slices its-turn.its_slot in
            let again : Entry Turn = record { due = total + commands + e.command.slice; number = mid.pushes; command = e.command } in
            let its : IsTurn At slots done runs_now again = record {
              slot = slot;
              its_slot = its-turn.its_slot;
              slice_is = its-turn.slice_is;
              place = place;
              its_place = placed-now;
              held = subst (λ n. IsRunPlace (At slot.setting) n place) (sym (get_or-set_same c.done block (before + commands) 0 (omega (arith, in_slots, stands.counted)))) (subst (IsRunPlace (At slot.setting) (before + commands)) (sym there.place_is) there.holds);
            } in
            let leads : LeadsTo slots start c (pushed_again slot (waiting_of e) (taken c (waiting_of e) commands)) =
            subst (λ n. LeadsTo slots start c (pushed_again slot (waiting_of e) (taken c (waiting_of e) n))) (sym k) (goes_on c (waiting_of e) slot next (subst (GoesOnUntil slot.setting start) t.0 t.1)) in
            let due_is : c.total + commands + slot.slice ≡ total + commands + e.command.slice = omega (arith, stands.total_is, its-turn.slice_is) in
            record {
              course = pushed_again slot (waiting_of e) (taken c (waiting_of e) commands);
              turns_are =
                  ap₂ (λ (ts : List (Entry ℕ)) (w : Entry ℕ). ts ++ w ∷ []) turns_left-here
                  (ap₂ (λ d n. record { due = d; number = n; command = block }) due_is (stands.pushes_are ∙ sym takes.pushes))
                  ∙ sym (map-append waiting_of mid.entries (again ∷ []))
                  ∙ ap (map waiting_of) (sym adds.entries);
              pushes_are = ap (λ n. n + 1) (stands.pushes_are ∙ sym takes.pushes) ∙ sym adds.pushes;
              total_is = ap (λ n. n + commands) stands.total_is;
              exhausted_is = stands.exhausted_is;
              reaches = λ x d. stands.reaches x (ends_after c _ x leads d);
              spends = λ n d. stands.spends n (spends_later c _ n leads d);
              apart = subst HaveOwnBlocks (sym adds.entries) (apart-last mid.entries again apart_left others);
              each = subst (Each (IsTurn At slots done runs_now)) (sym adds.entries) (each-last (IsTurn At slots done runs_now) mid.entries again each_now its);
              sum_is = sum_now;
              bounded = bounded_now;
              counted = length-set c.done block (before + commands) ∙ stands.counted;
              places = length-set runs block place ∙ stands.places;
              few = omega (arith, stands.few, takes.pushes, adds.pushes, k, some);
            }

    -- what stands at the place
    pub held-here : (place : Option S) → place ≡ get_or runs block place → IsRunPlace (At slot.setting) before place
    held-here place read = subst (IsRunPlace (At slot.setting) before) (sym (read ∙ get_or_from_slice_get runs block its-turn.place place its-turn.its_place)) its-turn.held

    -- what the turn came to
    module _ (Left : Setting → ℕ → S → Type 0) (good : AreSlots slots) (turned : Turned) (place : Option S) (commands : ℕ) (t : TookPlace (At slot.setting) (Left slot.setting) slot.setting start e.command.slice before place turned commands) where
      now-ends : (u : Turned) → turned ≡ u → TurnEnds slot.setting start slot.slice before (before + commands) u
      now-ends u is =
          subst (λ (x : Turned). TurnEnds slot.setting start slot.slice before (before + commands) x) is
          (subst (λ s. TurnEnds slot.setting start s before (before + commands) turned) its-turn.slice_is t.ends)

      pub took-fits : total + commands ≤ most_blocks * most_commands
      took-fits = fits commands good t.within

      pub took-closed : turned ≡ Closed → ScheduleEnds slots start (closed block (total + commands))
      took-closed is = stands-closed commands good t.within place (now-ends Closed is)

      pub took-left : turned ≡ Closed → IsLeft Left slots start (slice_set runs block place) block
      took-left is = left-closed commands good t.within place Left (now-ends Closed is) (subst (λ (x : Turned). WhereClosed x (IsRunThere (Left slot.setting) (before + commands) place)) is t.closed)

      pub took-exhausted : turned ≡ HasNoneLeft → StandsForCourse At slots start mid.entries mid.pushes (total + commands) true (slice_set runs block place)
      took-exhausted is = stands-exhausted commands good t.within place (now-ends HasNoneLeft is)

      pub took-stopped : turned ≡ IsAtLimit → StandsForCourse At slots start mid.entries mid.pushes (total + commands) exhausted (slice_set runs block place)
      took-stopped is = stands-stopped commands good t.within place (now-ends IsAtLimit is)

      pub took-spent : (conflicts : ℕ) → turned ≡ Spent conflicts → Spends slots start conflicts
      took-spent conflicts is = stands-spent commands good t.within place conflicts (now-ends (Spent conflicts) is)

      pub took-again : turned ≡ Paused → (new : Queue Turn R) → AddsEntry mid new 1 (total + commands + e.command.slice) e.command → StandsForCourse At slots start new.entries new.pushes (total + commands) exhausted (slice_set runs block place)
      took-again is new adds = stands-again commands good t.within place new adds (now-ends Paused is) (subst (λ (x : Turned). WherePaused x (IsRunThere (At slot.setting) (before + commands) place)) is t.paused)

      pub took-fewer : turned ≡ Paused → (new : Queue Turn R) → AddsEntry mid new 1 (total + commands + e.command.slice) e.command → turns_left (total + commands) new.entries < turns_left total old.entries
      took-fewer is new adds =
          let ends = now-ends Paused is in
          let k : commands ≡ slot.slice = omega (arith, ends.0) in
          let some : 0 < slot.slice = each-at (λ (s : Slot). 0 < s.slice) slots block slot good.slices its-turn.its_slot in
          let long : length new.entries ≡ length mid.entries + 1 = ap length adds.entries ∙ length-append mid.entries _ in
          omega (arith, k, some, long, one-less, took-fits)

  -- no turn is left
  module _ (entries : List (Entry Turn)) (pushes total : ℕ) (runs : List (Option S)) (none : entries ≡ []) where
    ended : (exhausted : Bool) → StandsForCourse At slots start entries pushes total exhausted runs → ScheduleEnds slots start (if exhausted then empty total else limit total)
    ended exhausted s =
        let no_turns : s.course.turns ≡ [] = s.turns_are ∙ ap (map waiting_of) none in
        subst (λ b. ScheduleEnds slots start (if b then empty total else limit total)) s.exhausted_is
        (subst (λ n. ScheduleEnds slots start (if s.course.exhausted then empty n else limit n)) s.total_is (s.reaches _ (no_turn_left s.course no_turns)))

    pub stands-empty : (exhausted : Bool) → exhausted ≡ true → StandsForCourse At slots start entries pushes total exhausted runs → ScheduleEnds slots start (empty total)
    stands-empty exhausted e s = subst (λ b. ScheduleEnds slots start (if b then empty total else limit total)) e (ended exhausted s)

    pub stands-limit : (exhausted : Bool) → exhausted ≡ false → StandsForCourse At slots start entries pushes total exhausted runs → ScheduleEnds slots start (limit total)
    stands-limit exhausted e s = subst (λ b. ScheduleEnds slots start (if b then empty total else limit total)) e (ended exhausted s)

-- one block more has its first turn
pub fresh-more : (blocks : List Block) (i : ℕ) (d : Block) (entries more : List (Entry Turn)) (due pushes number : ℕ) → i < length blocks → entries ≡ first_entries 0 (map (λ (b : Block). b.slice) (take i blocks))
    → more ≡ entries ++ (record { due = due; number = pushes; command = record { block = number; slice = (get_or blocks i d).slice } }) ∷ [] → due ≡ (get_or blocks i d).slice → pushes ≡ i → number ≡ i
    → more ≡ first_entries 0 (map (λ (b : Block). b.slice) (take (i + 1) blocks))
fresh-more blocks i d entries more due pushes number l was adds due_is pushes_are number_is =
    let slice : ℕ = (get_or blocks i d).slice in
    let slices : List ℕ = map (λ (b : Block). b.slice) (take i blocks) in
    let long : length slices ≡ i = length-map (take i blocks) (λ (b : Block). b.slice) ∙ length-take-le i blocks (omega (arith, l)) in
    adds
    ∙ ap (λ es. es ++ (record { due = due; number = pushes; command = record { block = number; slice = slice } }) ∷ []) was
    ∙ ap (λ n. first_entries 0 slices ++ (record { due = n; number = pushes; command = record { block = number; slice = slice } }) ∷ []) due_is
    ∙ ap₂ (λ m n. first_entries 0 slices ++ (record { due = slice; number = m; command = record { block = n; slice = slice } }) ∷ []) (pushes_are ∙ omega (arith, long)) (number_is ∙ omega (arith, long))
    ∙ sym (first-last 0 slices slice)
    ∙ ap (first_entries 0) (sym (map-append (λ (b : Block). b.slice) (take i blocks) (get_or blocks i d ∷ [])) ∙ ap (map (λ (b : Block). b.slice)) (sym (take_more blocks i d l)))
