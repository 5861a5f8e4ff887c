-- Pushing the commands of a loop.
use Rattle.std.specs.Prelude.{◌≡◌, ◌≤◌, ◌+◌, ◌-◌, ℕ, zero, suc, Bool, true, false, List, [], ◌∷◌, ◌++◌, map, take, drop, length, Option, Some, None, refl, if◌then◌else◌}
use Rattle.std.proofs.Common.{sym, ap, ap₂, subst, ◌∙◌, arith, length-drop}
use Rattle.std.proofs.lemmas.List.{length-take-le}
use Rattle.stt_core.specs.Typing.{Scope}
use Rattle.tableau_calculus.specs.Literals.{Literal}
use Rattle.mode_file.specs.declared.Mode.{Mode}
use Rattle.sat_core.specs.Solver.{learned}
use Rattle.command_queue.specs.declared.entry.Entry.{Entry}
use Rattle.command_queue.specs.Queue.{Queue, AddsEntry}
use Rattle.tableau_calculus.specs.Each.{Each}
use Rattle.search_spec.specs.Queue.{new_entries}
use Rattle.search_spec.specs.Partners.{positive_first}
use Rattle.search_spec.specs.State.{State, Command as Meant, process, mate, confront, inst, grow, choose, describe, kind_delay, due, with_commands}
use Rattle.search_spec.specs.Internal.Loops.{queue_of}
use Rattle.prover_state.specs.declared.command.Command.{Command}
use Rattle.prover_state.specs.declared.command.Command.TheVariants.{Process, Mate, Confront, Inst, Grow, Choose, Describe}
use Rattle.prover_state.specs.declared.command.Over.{Over}
use Rattle.prover_state.specs.declared.command.Over.TheVariants.{Terms, Universals, Negatives, Positives, Heads, Parked}
use Rattle.prover_state.specs.declared.command.Planned.{Planned}
use Rattle.prover_state.specs.declared.command.Rest.{Rest}
use Rattle.prover_state.specs.declared.command.Delays.{Delays}
use Rattle.prover_state.specs.declared.tables.Tables.{Tables}
use Rattle.prover_state.specs.Delays.{delay_by}
use Rattle.prover_state.specs.Internal.Names.{Naming, command_at}
use Rattle.prover_state.specs.Internal.Pending.{over_terms, over_universals, over_negatives, over_positives, over_heads, over_parked, loop_over, between, later_of, AreThere, IsEntry, span, span_of, loop_at}
use Rattle.prover_state.specs.Internal.Pieces.{extra_delay}
use Rattle.prover_state.specs.Internal.Standing.{without_witnesses, naming_in, sources, state_parts, loops_in, the_state, IsRightState}
use Rattle.prover_state.proofs.EachLaws.{each-last}
use Rattle.prover_state.proofs.QueueLaws.{queue-last}

waiting-same : {C : Type 0} (d : C → ℕ) (m n : ℕ) (cs : List C) → Each (λ c. d c ≡ m) cs → new_entries d n cs ≡ new_entries (λ c. m) n cs
waiting-same d m n [] h = refl
waiting-same d m n (c ∷ cs) h = ap₂ (λ k qs. record { due = k; number = n; command = c } ∷ qs) h.0 (waiting-same d m (suc n) cs h.1)

pub length-between : {X : Type 0} (next end : ℕ) (xs : List X) → next ≤ end → end ≤ length xs → length (between next end xs) ≡ end - next
length-between next end xs h k = length-take-le (end - next) (drop next xs) (omega (arith, h, k, length-drop next xs))

pub each_of_all : {X Y : Type 0} (P : Y → Type 0) (f : X → Y) → ((x : X) → P (f x)) → (xs : List X) → Each P (map f xs)
each_of_all P f h [] = tt
each_of_all P f h (x ∷ xs) = (h x, each_of_all P f h xs)

pub each-take : {X : Type 0} (P : X → Type 0) (n : ℕ) (xs : List X) → Each P xs → Each P (take n xs)
each-take P zero xs h = tt
each-take P (suc n) [] h = tt
each-take P (suc n) (x ∷ xs) h = (h.0, each-take P n xs h.1)

pub each-drop : {X : Type 0} (P : X → Type 0) (n : ℕ) (xs : List X) → Each P xs → Each P (drop n xs)
each-drop P zero xs h = h
each-drop P (suc n) [] h = tt
each-drop P (suc n) (x ∷ xs) h = each-drop P n xs h.1

module _ (mode : Mode) where
  mated_delay : (l m : Literal) (b : Bool) → kind_delay mode (if b then mate l m else mate m l) ≡ mode.mate
  mated_delay l m true = refl
  mated_delay l m false = refl

  confronted_delay : (l m : Literal) (b : Bool) → kind_delay mode (if b then confront l m else confront m l) ≡ mode.confront
  confronted_delay l m true = refl
  confronted_delay l m false = refl

  -- the commands of a loop are of one kind
  abbrev WaitsLike : Meant → Meant → Type 0
  WaitsLike c d = kind_delay mode d ≡ kind_delay mode c

  terms_wait : (s : State) (c : Meant) → Each (WaitsLike c) (over_terms s c)
  terms_wait s (inst l u) = each_of_all (WaitsLike (inst l u)) (inst l) (λ x. refl) _
  terms_wait s (process l) = tt
  terms_wait s (mate l m) = tt
  terms_wait s (confront l m) = tt
  terms_wait s (grow p h) = tt
  terms_wait s (choose a f) = tt
  terms_wait s (describe a f) = tt

  universals_wait : (s : State) (c : Meant) → Each (WaitsLike c) (over_universals s c)
  universals_wait s (inst l u) = each_of_all (WaitsLike (inst l u)) (λ k. inst k u) (λ x. refl) _
  universals_wait s (process l) = tt
  universals_wait s (mate l m) = tt
  universals_wait s (confront l m) = tt
  universals_wait s (grow p h) = tt
  universals_wait s (choose a f) = tt
  universals_wait s (describe a f) = tt

  negatives_wait : (s : State) (c : Meant) → Each (WaitsLike c) (over_negatives s c)
  negatives_wait s (mate l m) = each_of_all (WaitsLike (mate l m)) (positive_first mate l) (λ x. mated_delay l x l.positive) _
  negatives_wait s (confront l m) = each_of_all (WaitsLike (confront l m)) (positive_first confront l) (λ x. confronted_delay l x l.positive) _
  negatives_wait s (process l) = tt
  negatives_wait s (inst l u) = tt
  negatives_wait s (grow p h) = tt
  negatives_wait s (choose a f) = tt
  negatives_wait s (describe a f) = tt

  positives_wait : (s : State) (c : Meant) → Each (WaitsLike c) (over_positives s c)
  positives_wait s (mate l m) = each_of_all (WaitsLike (mate l m)) (positive_first mate m) (λ x. mated_delay m x m.positive) _
  positives_wait s (confront l m) = each_of_all (WaitsLike (confront l m)) (positive_first confront m) (λ x. confronted_delay m x m.positive) _
  positives_wait s (process l) = tt
  positives_wait s (inst l u) = tt
  positives_wait s (grow p h) = tt
  positives_wait s (choose a f) = tt
  positives_wait s (describe a f) = tt

  heads_wait : (scope : Scope) (s : State) (n : ℕ) (c : Meant) → Each (WaitsLike c) (over_heads scope s n c)
  heads_wait scope s n (grow p h) = each_of_all (WaitsLike (grow p h)) (grow p) (λ x. refl) _
  heads_wait scope s n (process l) = tt
  heads_wait scope s n (mate l m) = tt
  heads_wait scope s n (confront l m) = tt
  heads_wait scope s n (inst l u) = tt
  heads_wait scope s n (choose a f) = tt
  heads_wait scope s n (describe a f) = tt

  parked_wait : (s : State) (c : Meant) → Each (WaitsLike c) (over_parked s c)
  parked_wait s (grow p h) = each_of_all (WaitsLike (grow p h)) (λ q. grow q h) (λ x. refl) _
  parked_wait s (process l) = tt
  parked_wait s (mate l m) = tt
  parked_wait s (confront l m) = tt
  parked_wait s (inst l u) = tt
  parked_wait s (choose a f) = tt
  parked_wait s (describe a f) = tt

  loop_waits : (scope : Scope) (s : State) (o : Over) (c : Meant) → Each (WaitsLike c) (loop_over scope s o c)
  loop_waits scope s Terms c = terms_wait s c
  loop_waits scope s Universals c = universals_wait s c
  loop_waits scope s Negatives c = negatives_wait s c
  loop_waits scope s Positives c = positives_wait s c
  loop_waits scope s (Heads n) c = heads_wait scope s n c
  loop_waits scope s Parked c = parked_wait s c

  later_waits : (scope : Scope) (s : State) (c : Meant) (r : Option Rest) → Each (WaitsLike c) (later_of scope s c r)
  later_waits scope s c None = tt
  later_waits scope s c (Some r) =
      each-take (WaitsLike c) (r.end - r.next) (drop r.next (loop_over scope s r.over c)) (each-drop (WaitsLike c) r.next (loop_over scope s r.over c) (loop_waits scope s r.over c))

pub length-later : (scope : Scope) (s : State) (c : Meant) (r : Option Rest) → AreThere scope s c r → length (later_of scope s c r) ≡ span_of r
length-later scope s c None w = refl
length-later scope s c (Some r) w = length-between r.next r.end (loop_over scope s r.over c) w.ascends w.within

pub delay-numbered : (m : Mode) (names : Naming) (c : Command) → kind_delay m (command_at names c) ≡ delay_by m c
delay-numbered m names (Process l) = refl
delay-numbered m names (Mate l k) = refl
delay-numbered m names (Confront l k) = refl
delay-numbered m names (Inst l u) = refl
delay-numbered m names (Grow p h) = refl
delay-numbered m names (Choose f) = refl
delay-numbered m names (Describe f) = refl

module _ (t : Tables) (old new : Queue Planned Delays) (p : Planned) (entry : IsEntry (without_witnesses t.basis.bank) (naming_in t) (sources t) p) (extra : ℕ) (even : Each (λ c. extra_delay old.rule.mode c ≡ extra) (command_at (naming_in t) p.first ∷ later_of (without_witnesses t.basis.bank) (sources t) (command_at (naming_in t) p.first) p.rest)) (adds : AddsEntry old new (suc (span p)) (t.moment + extra + delay_by old.rule.mode p.first) p) where
  abbrev scope : Scope
  scope = without_witnesses t.basis.bank

  abbrev first : Meant
  first = command_at (naming_in t) p.first

  abbrev commands : List Meant
  commands = first ∷ later_of scope (sources t) first p.rest

  abbrev moment : ℕ
  moment = t.moment + extra + delay_by old.rule.mode p.first

  abbrev added : Entry Planned
  added = record { due = moment; number = old.pushes; command = p }

  one_due : (c : Meant) → WaitsLike old.rule.mode first c → extra_delay old.rule.mode c ≡ extra → due old.rule.mode t.moment c ≡ moment
  one_due c kind more = ap (λ n. t.moment + n) (ap₂ (λ m n. m + n) (kind ∙ delay-numbered old.rule.mode (naming_in t) p.first) more) ∙ sums t.moment extra (delay_by old.rule.mode p.first)
    where
      sums : (k m n : ℕ) → k + (n + m) ≡ k + m + n
      sums k m n = omega arith

  delays_are : Each (λ c. due old.rule.mode t.moment c ≡ moment) commands
  delays_are = (one_due first refl even.0, each_due (later_of scope (sources t) first p.rest) (later_waits old.rule.mode scope (sources t) first p.rest) even.1)
    where
      each_due : (cs : List Meant) → Each (WaitsLike old.rule.mode first) cs → Each (λ c. extra_delay old.rule.mode c ≡ extra) cs → Each (λ c. due old.rule.mode t.moment c ≡ moment) cs
      each_due [] h k = tt
      each_due (c ∷ cs) h k = (one_due c h.0 k.0, each_due cs h.1 k.1)

  -- The state with the commands of a loop pushed.
  pub pushed-loop : the_state t new ≡ with_commands old.rule.mode commands (the_state t old)
  pushed-loop = ap₂ (λ qs n. record (state_parts t) { queue = qs; pushes = n }) queue_is pushes_is
    where
      queue_is : queue_of (loops_in t new.entries) ≡ queue_of (loops_in t old.entries) ++ new_entries (due old.rule.mode t.moment) old.pushes commands
      queue_is =
          ap (λ es. queue_of (loops_in t es)) adds.entries
          ∙ queue-last (loop_at scope (naming_in t) (sources t)) (λ e. refl) (λ e. refl) old.entries added
          ∙ ap (λ qs. queue_of (loops_in t old.entries) ++ qs) (sym (waiting-same (due old.rule.mode t.moment) moment old.pushes commands delays_are))

      pushes_is : new.pushes ≡ old.pushes + length commands
      pushes_is = adds.pushes ∙ ap (λ n. old.pushes + suc n) (sym (length-later scope (sources t) first p.rest entry.later))

  pub right-pushed : IsRightState t old → IsRightState t new
  right-pushed r =
      let B : Delays → Type 0 = λ d. length (learned t.solver) ≤ d.mode.conflicts in
      let Q : List (Entry Planned) → Type 0 = λ es. Each (λ e. IsEntry scope (naming_in t) (sources t) e.command) es in
      record {
        basis = r.basis;
        clauses = r.clauses;
        solver = r.solver;
        seen = r.seen;
        noted = r.noted;
        universals = r.universals;
        terms = r.terms;
        chosen = r.chosen;
        described = r.described;
        walked = r.walked;
        taken = r.taken;
        index = r.index;
        paired = r.paired;
        offered = r.offered;
        takers = r.takers;
        stems = r.stems;
        open_holes = r.open_holes;
        roots = r.roots;
        holes = r.holes;
        budget = subst B (sym adds.rule) r.budget;
        queue = subst Q (sym adds.entries) (each-last (λ e. IsEntry scope (naming_in t) (sources t) e.command) old.entries added r.queue entry);
      }
