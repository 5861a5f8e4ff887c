-- The next command is taken from the queue.
use Rattle.std.specs.Prelude.{◌≡◌, ◌<◌, ◌≤◌, ◌+◌, ◌-◌, ℕ, suc, List, [], ◌∷◌, ◌++◌, map, take, drop, length, slice_get, Option, Some, refl}
use Rattle.std.proofs.Common.{sym, ap, ap₂, subst, ◌∙◌, arith, inl, inr}
use Rattle.stt_core.specs.Typing.{Scope}
use Rattle.command_queue.specs.declared.entry.Entry.{Entry}
use Rattle.command_queue.specs.Queue.{Queue, TakesEntry, AddsEntryAt}
use Rattle.tableau_calculus.specs.Each.{Each}
use Rattle.search_spec.specs.Queue.{next_command, without_number}
use Rattle.search_spec.specs.State.{State, Command as Meant}
use Rattle.search_spec.specs.Internal.Loops.{Loop, queue_of, loop_left}
use Rattle.prover_state.specs.declared.command.Command.{Command}
use Rattle.prover_state.specs.declared.command.Planned.{Planned}
use Rattle.prover_state.specs.declared.command.Rest.{Rest}
use Rattle.prover_state.specs.declared.command.Delays.{Delays}
use Rattle.prover_state.specs.declared.tables.Tables.{Tables}
use Rattle.prover_state.specs.Internal.Names.{Naming, command_at, IsNumberedCommand}
use Rattle.prover_state.specs.Internal.Pending.{loop_over, later_of, between, AreThere, IsSigned, IsWithinScope, IsEntry, span, span_of, loop_at, EndsBelow, IsApart, AreSpaced}
use Rattle.sat_core.specs.Solver.{learned}
use Rattle.prover_state.specs.Internal.Standing.{without_witnesses, naming_in, sources, state_parts, loops_in, the_state, IsRightState}
use Rattle.prover_state.specs.Internal.Taking.{TakesNext, rest_behind}
use Rattle.prover_state.proofs.EachLaws.{each-weaker, each-between, each-without, each-at}
use Rattle.prover_state.proofs.SpacedLaws.{each_ends, before_ends, behind_begins}
use Rattle.prover_state.proofs.PushLaws.{length-later}
use Rattle.prover_state.proofs.SameLoops.{same-loop}
use Rattle.prover_state.proofs.WholeLaws.{between-more}
use Rattle.prover_state.proofs.QueueLaws.{next-taken, without-alone, without-more}

module _ (scope : Scope) (names : Naming) (s : State) (old mid : Queue Planned Delays) (e : Entry Planned) (takes : TakesEntry old mid e) (spaced : AreSpaced old.entries old.pushes) (good : Each (λ x. IsEntry scope names s x.command) old.entries) where
  abbrev f : Entry Planned → Loop Meant
  f = loop_at scope names s

  abbrev Good : Entry Planned → Type 0
  Good x = IsEntry scope names s x.command

  abbrev here : Meant
  here = command_at names e.command.first

  full : Each (λ x. length (f x).later ≡ span x.command) old.entries
  full = each-weaker Good (λ x. length (f x).later ≡ span x.command) (λ x h. length-later scope s (command_at names x.command.first) x.command.rest h.later) old.entries good

  good_parted : Each Good (takes.before ++ e ∷ takes.behind)
  good_parted = subst (Each Good) takes.stands good

  pub entry-good : Good e
  entry-good = first takes.before good_parted
    where
      first : (xs : List (Entry Planned)) → Each Good (xs ++ e ∷ takes.behind) → Good e
      first [] h = h.0
      first (x ∷ xs) h = first xs h.1

  pub others-good : Each Good mid.entries
  others-good = subst (Each Good) (sym takes.leaves) (each-without Good takes.before e takes.behind good_parted)

  pub is-next : next_command (queue_of (map f old.entries)) ≡ Some (record { due = e.due; number = e.number; command = here })
  is-next = next-taken f (λ x. refl) (λ x. refl) old mid e takes

  pub leaves-alone : later_of scope s here e.command.rest ≡ [] → without_number e.number (queue_of (map f old.entries)) ≡ queue_of (map f mid.entries)
  leaves-alone none = without-alone f (λ x. refl) (λ x. refl) old mid e takes spaced full none

  spaced_parted : AreSpaced (takes.before ++ e ∷ takes.behind) old.pushes
  spaced_parted = let P : List (Entry Planned) → Type 0 = λ es. AreSpaced es old.pushes in subst P takes.stands spaced

  module _ (r : Rest) (rest : e.command.rest ≡ Some r) (some : r.next < r.end) (next : Command) (at : slice_get (loop_over scope s r.over here) r.next ≡ Some (command_at names next)) (numbers : IsNumberedCommand names next) where
    abbrev entry' : Entry Planned
    entry' = record { due = e.due; number = e.number + 1; command = record { first = next; rest = Some (rest_behind r) } }

    span_is : span e.command ≡ r.end - r.next
    span_is = ap span_of rest

    within : IsWithinScope scope s here r
    within = let T : Option Rest → Type 0 = λ o. AreThere scope s here o in subst T rest entry-good.later

    loops : (loop_over scope s r.over (command_at names next) ≡ loop_over scope s r.over here) × IsSigned r.over (command_at names next)
    loops = same-loop scope s r.over r.next here (command_at names next) within.signed at

    pub ends-below : EndsBelow mid.pushes entry'
    ends-below =
        let h = each-at (EndsBelow old.pushes) (takes.before ++ e ∷ takes.behind) (length takes.before) e (each_ends (takes.before ++ e ∷ takes.behind) old.pushes spaced_parted) (there takes.before) in
        omega (arith, h, span_is, takes.pushes, some)
      where
        there : (xs : List (Entry Planned)) → slice_get (xs ++ e ∷ takes.behind) (length xs) ≡ Some e
        there [] = refl
        there (x ∷ xs) = there xs

    pub is-apart : Each (IsApart entry') mid.entries
    is-apart =
        subst (Each (IsApart entry')) (sym takes.leaves)
        (both takes.before takes.behind
        (each-weaker (EndsBelow e.number) (IsApart entry') (λ x h. inl (omega (arith, h))) takes.before (before_ends takes.before e takes.behind old.pushes spaced_parted))
        (each-weaker (λ x. EndsBelow x.number e) (IsApart entry') (λ x h. inr (omega (arith, h, span_is, some))) takes.behind (behind_begins takes.before e takes.behind old.pushes spaced_parted)))
      where
        both : (xs ys : List (Entry Planned)) → Each (IsApart entry') xs → Each (IsApart entry') ys → Each (IsApart entry') (xs ++ ys)
        both [] ys h k = k
        both (x ∷ xs) ys h k = (h.0, both xs ys h.1 k)

    later_is : later_of scope s here e.command.rest ≡ command_at names next ∷ between (suc r.next) r.end (loop_over scope s r.over here)
    later_is = ap (later_of scope s here) rest ∙ between-more r.next r.end (loop_over scope s r.over here) (command_at names next) some at

    left_is : loop_left (f e).due (f e).number (f e).later ≡ f entry' ∷ []
    left_is =
        ap (loop_left e.due e.number) later_is
        ∙ ap₂ (λ (n : ℕ) (l : List Meant). record { due = e.due; number = n; first = command_at names next; later = between (suc r.next) r.end l } ∷ [])
        (let k : suc e.number ≡ e.number + 1 = omega arith in k) (sym loops.0)

    entry_good : IsEntry scope names s entry'.command
    entry_good = record {
      numbers = numbers;
      later = record {
        ascends = omega (arith, some);
        within = let n = ap length loops.0 in omega (arith, within.within, n);
        witnesses = within.witnesses;
        signed = loops.1;
      };
    }

    module _ (new : Queue Planned Delays) (adds : AddsEntryAt mid new entry') where
      pub leaves-more : without_number e.number (queue_of (map f old.entries)) ≡ queue_of (map f new.entries)
      leaves-more =
          without-more f (λ x. refl) (λ x. refl) old mid new e entry' takes adds spaced full (let k : e.number + 1 ≡ suc e.number = omega arith in k) (omega (arith, span_is, some)) left_is

      pub all-good : Each Good new.entries
      all-good =
          subst (Each Good) (sym adds.stands) (each-between Good adds.before entry' adds.behind (subst (Each Good) adds.stood others-good) entry_good)

module _ (t : Tables) (old mid : Queue Planned Delays) (e : Entry Planned) (takes : TakesEntry old mid e) (spaced : AreSpaced old.entries old.pushes) (r : IsRightState t old) where
  abbrev scope : Scope
  scope = without_witnesses t.basis.bank

  -- the first command, with its number and when it is due
  abbrev first_alone : Entry Command
  first_alone = record { due = e.due; number = e.number; command = e.command.first }

  state_after : (new : Queue Planned Delays) → without_number e.number (queue_of (loops_in t old.entries)) ≡ queue_of (loops_in t new.entries) → new.pushes ≡ old.pushes → the_state t new ≡ record (the_state t old) { queue = without_number e.number (the_state t old).queue }
  state_after new h k = ap₂ (λ qs n. record (state_parts t) { queue = qs; pushes = n }) (sym h) k

  right_with : (new : Queue Planned Delays) → Each (λ x. IsEntry scope (naming_in t) (sources t) x.command) new.entries → new.rule ≡ old.rule → IsRightState t new
  right_with new h k =
      let B : Delays → Type 0 = λ d. length (learned t.solver) ≤ d.mode.conflicts in
      record {
        basis = r.basis;
        clauses = r.clauses;
        solver = r.solver;
        seen = r.seen;
        noted = r.noted;
        universals = r.universals;
        terms = r.terms;
        chosen = r.chosen;
        described = r.described;
        walked = r.walked;
        taken = r.taken;
        index = r.index;
        paired = r.paired;
        offered = r.offered;
        takers = r.takers;
        stems = r.stems;
        open_holes = r.open_holes;
        roots = r.roots;
        holes = r.holes;
        budget = subst B (sym k) r.budget;
        queue = h;
      }

  pub takes-alone : later_of scope (sources t) (command_at (naming_in t) e.command.first) e.command.rest ≡ [] → TakesNext t old mid first_alone
  takes-alone none = record {
    is_next = is-next scope (naming_in t) (sources t) old mid e takes spaced r.queue;
    leaves = state_after mid (leaves-alone scope (naming_in t) (sources t) old mid e takes spaced r.queue none) takes.pushes;
    numbers = (entry-good scope (naming_in t) (sources t) old mid e takes spaced r.queue).numbers;
  }

  pub right-alone : IsRightState t mid
  right-alone = right_with mid (others-good scope (naming_in t) (sources t) old mid e takes spaced r.queue) takes.rule

  pub none-left : (o : Option Rest) → o ≡ e.command.rest → (rest : Rest) → o ≡ Some rest → rest.end ≤ rest.next → later_of scope (sources t) (command_at (naming_in t) e.command.first) e.command.rest ≡ []
  none-left o is rest k h =
      ap (later_of scope (sources t) (command_at (naming_in t) e.command.first)) (sym is ∙ k)
      ∙ ap (λ n. take n (drop rest.next (loop_over scope (sources t) rest.over (command_at (naming_in t) e.command.first)))) (let z : rest.end - rest.next ≡ 0 = omega (arith, h) in z)

  module _ (rest : Rest) (is : e.command.rest ≡ Some rest) (some : rest.next < rest.end) (next : Command) (at : slice_get (loop_over scope (sources t) rest.over (command_at (naming_in t) e.command.first)) rest.next ≡ Some (command_at (naming_in t) next)) (numbers : IsNumberedCommand (naming_in t) next) (new : Queue Planned Delays) (adds : AddsEntryAt mid new (record { due = e.due; number = e.number + 1; command = record { first = next; rest = Some (rest_behind rest) } })) where
    pub takes-more : TakesNext t old new first_alone
    takes-more = record {
      is_next = is-next scope (naming_in t) (sources t) old mid e takes spaced r.queue;
      leaves = state_after new (leaves-more scope (naming_in t) (sources t) old mid e takes spaced r.queue rest is some next at numbers new adds) (adds.pushes ∙ takes.pushes);
      numbers = (entry-good scope (naming_in t) (sources t) old mid e takes spaced r.queue).numbers;
    }

    pub right-more : IsRightState t new
    right-more = right_with new (all-good scope (naming_in t) (sources t) old mid e takes spaced r.queue rest is some next at numbers new adds) (adds.rule ∙ takes.rule)
