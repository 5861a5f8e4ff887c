-- A run goes on by a command.
use Rattle.std.specs.Prelude.{◌≡◌, ◌≢◌, ◌≤◌, ◌<◌, ◌+◌, ◌*◌, ◌^◌, ℕ, suc, Bool, true, false, List, [], ◌∷◌, map, length, Some, refl, if◌then◌else◌}
use Rattle.std.proofs.Common.{sym, ap, ap₂, ◌∙◌, subst, arith, add-one}
use Rattle.std.proofs.lemmas.Option.{same_Some}
use Rattle.stt_core.specs.Typing.{Scope, IsScope}
use Rattle.tableau_calculus.specs.Literals.{Literal, IsBranch}
use Rattle.tableau_calculus.specs.Witnesses.{with_rows}
use Rattle.mode_file.specs.declared.Mode.{Mode}
use Rattle.mode_file.specs.Given.{IsInRange}
use Rattle.command_queue.specs.declared.entry.Entry.{Entry}
use Rattle.command_queue.specs.Queue.{Queue, comes_before}
use Rattle.search_spec.specs.Defaults.{default_delay}
use Rattle.tableau_calculus.specs.Each.{Each}
use Rattle.search_spec.specs.Unsatisfiable.{Unsatisfiable}
use Rattle.search_spec.specs.Queue.{first_waiting, next_command, without_number}
use Rattle.search_spec.specs.State.{State, Setting, Command as Meant, process, mate, confront, inst, choose, describe, grow, kind_delay, brings_default, delay, moment_by}
use Rattle.search_spec.specs.Commands.{with_command}
use Rattle.search_spec.specs.After.{with_taken, after_command, next_state, state_after}
use Rattle.search_spec.specs.TypedState.{IsTypedSketch, IsTypedCommand}
use Rattle.search_spec.specs.Internal.Loops.{queue_of}
use Rattle.search_spec.proofs.NamingLaws.{each-joined, pick_good}
use Rattle.search_spec.proofs.TypedCommands.{after-typed}
use Rattle.type_bound.specs.Modest.{IsModestLiteral, IsModestSetting}
use Rattle.type_bound.specs.Small.{IsSmallCommand}
use Rattle.type_bound.proofs.SmallLaws.{stay_small}
use Rattle.prover_state.specs.declared.command.Command.{Command}
use Rattle.prover_state.specs.declared.command.Planned.{Planned}
use Rattle.prover_state.specs.declared.command.Delays.{Delays}
use Rattle.prover_state.specs.declared.tables.Basis.{Basis}
use Rattle.prover_state.specs.declared.tables.Tables.{Tables}
use Rattle.prover_state.specs.Internal.Names.{command_at}
use Rattle.prover_state.specs.Internal.Standing.{without_witnesses, scope_by, sketches_in, naming_in, setting_by, loops_in, the_state, IsRightState}
use Rattle.prover_state.specs.Internal.Taking.{entry_at, TakesNext}
use Rattle.prover_state.proofs.EachLaws.{each-weaker}
use Rattle.prover_state.specs.Internal.Steps.{IsMadeInstance}
use Rattle.prover_search.specs.Internal.Developing.{IsWider, Develops}
use Rattle.prover_search.specs.Internal.Running.{start_in, IsRunning}
use Rattle.prover_search.specs.Internal.Answers.{StepGoesOn}
use Rattle.prover_search.proofs.MadeStays.{made-wider}
use Rattle.prover_search.proofs.PacedLaws.{after-paced}
use Rattle.prover_search.proofs.UnitLaws.{units-grow, start-stays}

first_good : (P : Entry Meant → Type 0) (q : Entry Meant) (qs : List (Entry Meant)) → P q → Each P qs → P (first_waiting q qs)
first_good P q [] h k = h
first_good P q (p ∷ ps) h k = first_good P (if comes_before p q then p else q) ps (pick_good P (comes_before p q) p q k.0 h) k.1

-- what holds of all commands that wait holds of the next one
pub next-good : (P : Entry Meant → Type 0) (qs : List (Entry Meant)) (q : Entry Meant) → Each P qs → next_command qs ≡ Some q → P q
next-good P [] q h e = cc
next-good P (p ∷ ps) q h e = subst P (same_Some (first_waiting p ps) q e) (first_good P p ps h.0 h.1)

some_next : (qs : List (Entry Meant)) (q : Entry Meant) → next_command qs ≡ Some q → qs ≢ []
some_next [] q e = cc
some_next (p ∷ ps) q e = λ f. cc

-- commands wait where entries do
pub some-wait : (t : Tables) (es : List (Entry Planned)) → es ≢ [] → queue_of (loops_in t es) ≢ []
some-wait t [] h = λ f. h refl
some-wait t (e ∷ es) h = λ f. cc

pub none-waits : (t : Tables) (q : Queue Planned Delays) → q.entries ≡ [] → (the_state t q).queue ≡ []
none-waits t q e = ap (λ es. queue_of (loops_in t es)) e

-- the number of commands and the moment don't count for what is right
pub right-done : (t : Tables) (q : Queue Planned Delays) (n m : ℕ) → IsRightState t q → IsRightState (record t { done = n; moment = m }) q
right-done t q n m r = record {
  basis = r.basis;
  clauses = r.clauses;
  solver = r.solver;
  seen = r.seen;
  noted = r.noted;
  index = r.index;
  paired = r.paired;
  universals = r.universals;
  terms = r.terms;
  chosen = r.chosen;
  described = r.described;
  walked = r.walked;
  taken = r.taken;
  offered = r.offered;
  takers = r.takers;
  stems = r.stems;
  open_holes = r.open_holes;
  roots = r.roots;
  holes = r.holes;
  budget = r.budget;
  queue = r.queue;
}

pub scope-wider : (g h : Basis) → IsWider g h → without_witnesses h.bank ≡ without_witnesses g.bank
scope-wider g h w = λ i. record { bases = length (w.bank.bases i); names = map (λ c. c.type) (w.bank.consts i); witnesses = [] }

-- the tables with one command more, at the moment at which it is carried out
abbrev pub counted : ℕ → Tables → Tables
counted m t = record t { done = t.done + 1; moment = m }

-- what the command did to the tables that count it, at this moment
pub record Carried (m : ℕ) (t : Tables) (q1 : Queue Planned Delays) (c : Command) (t2 : Tables) (q2 : Queue Planned Delays) : Type 0 where
  pub is : the_state t2 q2 ≡ with_command (setting_by (counted m t) q1) (command_at (naming_in (counted m t)) c) (the_state (counted m t) q1)
  pub develops : Develops (counted m t) t2
  pub few : length t2.basis.witnesses ≤ suc (length t.basis.witnesses)

default_short : (mode : Mode) → IsInRange mode → (b : Bool) → default_delay mode b ≤ 1000
default_short mode r true = r.defaults
default_short mode r false = omega arith

-- no delay of a mode within its ranges is above 2,000
short-delays : (mode : Mode) → IsInRange mode → (c : Meant) → delay mode c ≤ 2000
short-delays mode r c = let k = kind_short c in let d = default_short mode r (brings_default c) in omega (arith, k, d)
  where
    kind_short : (c : Meant) → kind_delay mode c ≤ 1000
    kind_short (process l) = r.process
    kind_short (mate l k) = r.mate
    kind_short (confront l k) = r.confront
    kind_short (inst l u) = r.inst
    kind_short (choose a f) = r.choose
    kind_short (describe a f) = r.choose
    kind_short (grow p h) = r.grow

-- the moment at which the next command is due is a number of 32 bits
pub due-small : (t : Tables) (q q1 : Queue Planned Delays) → IsRunning t q → (e : Entry Command) → TakesNext t q q1 e → e.due < 2 ^ 32
due-small t q q1 r e takes =
    let s = the_state t q in
    let paced = after-paced (setting_by t q) (short-delays q.rule.mode r.range) (start_in t) t.done s r.comes_to in
    let due : e.due ≤ 2000 * t.done + 2000 = next-good (λ w. w.due ≤ 2000 * t.done + 2000) s.queue _ paced.2 takes.is_next in
    let most : q.rule.mode.commands ≤ 1000000 = r.range.commands in
    omega (arith, due, r.within, most)

-- the moment over tables that are the same
pub clock-same : (t u : Tables) (k l m due : ℕ) → k ≡ l → u ≡ t → m ≡ moment_by k (u.done + 1) due → m ≡ moment_by l (t.done + 1) due
clock-same t u k l m due clock tables h = h ∙ ap₂ (λ x (y : Tables). moment_by x (y.done + 1) due) clock tables

module _ (t : Tables) (q q1 : Queue Planned Delays) (r : IsRunning t q) (e : Entry Command) (takes : TakesNext t q q1 e) (rule : q1.rule ≡ q.rule) (m : ℕ) (clock : m ≡ moment_by q.rule.mode.clock (t.done + 1) e.due) where
  abbrev s : State
  s = the_state t q

  abbrev setting : Setting
  setting = setting_by t q

  abbrev t1 : Tables
  t1 = counted m t

  pub taken-typed : IsTypedCommand (scope_by t1.basis) (command_at (naming_in t1) e.command)
  taken-typed =
      let typed = after-typed setting r.declared (start_in t) r.start t.done s r.comes_to in
      next-good (λ w. IsTypedCommand (scope_by t.basis) w.command) s.queue _ typed.typed.queue takes.is_next

  pub taken-small : IsSmallCommand (command_at (naming_in t1) e.command)
  taken-small =
      let small = stay_small setting (start_in t) r.modest r.modest_start t.done s r.comes_to in
      next-good (λ w. IsSmallCommand w.command) s.queue _ small.queue takes.is_next

  pub taken-sketches : Each (IsTypedSketch (scope_by t1.basis)) (sketches_in t1)
  taken-sketches = (after-typed setting r.declared (start_in t) r.start t.done s r.comes_to).typed.parked

  taken_state : the_state t1 q1 ≡ with_taken setting (entry_at (naming_in t) e) s
  taken_state =
      ap (λ (x : State). record x { done = t.done + 1; moment = m }) takes.leaves
      ∙ ap (λ k. record s { queue = without_number e.number s.queue; done = t.done + 1; moment = k }) clock
      ∙ ap (λ n. record s { queue = without_number e.number s.queue; done = n; moment = moment_by q.rule.mode.clock n e.due }) (add-one t.done)

  taken_setting : setting_by t1 q1 ≡ setting
  taken_setting = ap (λ (d : Delays). record { scope = without_witnesses t.basis.bank; mode = d.mode }) rule

  module _ (t2 : Tables) (q2 : Queue Planned Delays) (k : Carried m t q1 e.command t2 q2) (right : IsRightState t2 q2) (rule2 : q2.rule ≡ q1.rule) where
    abbrev develops : Develops t1 t2
    develops = k.develops

    carried_next : next_state setting (Some s) ≡ Some (the_state t2 q2)
    carried_next =
        ap (λ o. after_command setting o s) takes.is_next
        ∙ ap Some (sym (k.is ∙ ap₂ (λ (x : Setting) (y : State). with_command x (command_at (naming_in t) e.command) y) taken_setting taken_state))

    pub setting-next : setting_by t2 q2 ≡ setting
    setting-next = ap₂ (λ (x : Scope) (d : Delays). record { scope = x; mode = d.mode }) (scope-wider t.basis t2.basis develops.basis) (rule2 ∙ rule)

    pub start-next : start_in t2 ≡ start_in t
    start-next = start-stays t t2 r.right.basis develops.basis r.right.clauses (units-grow (IsMadeInstance t2.basis) t.steps t2.steps develops.steps)

    abbrev Comes : Setting → List Literal → ℕ → Type 0
    Comes x ls n = state_after x ls n ≡ Some (the_state t2 q2)

    comes_next : Comes (setting_by t2 q2) (start_in t2) t2.done
    comes_next =
        subst (λ x. Comes x (start_in t2) t2.done) (sym setting-next)
        (subst (λ ls. Comes setting ls t2.done) (sym start-next)
        (subst (λ n. Comes setting (start_in t) n) (sym (develops.done ∙ add-one t.done))
        (ap (next_state setting) r.comes_to ∙ carried_next)))

    pub goes-on : (Unsatisfiable s.clauses → ⊥) → t.done ≢ q.rule.mode.commands → StepGoesOn (record { tables = t; plan = q }) (record { tables = t2; plan = q2 })
    goes-on satisfiable below = record { satisfiable = satisfiable; some_left = some_next s.queue _ takes.is_next; below = below; next = carried_next; done = develops.done }

    pub running-next : t.done ≢ q.rule.mode.commands → IsRunning t2 q2
    running-next below =
        let old = t.basis in
        let new = t2.basis in
        let w = develops.basis in
        let commands_same : q2.rule.mode.commands ≡ q.rule.mode.commands = ap (λ (d : Delays). d.mode.commands) (rule2 ∙ rule) in
        record {
          right = right;
          comes_to = comes_next;
          range = let R : Delays → Type 0 = λ d. IsInRange d.mode in subst R (sym (rule2 ∙ rule)) r.range;
          within = omega (arith, r.within, below, develops.done, commands_same);
          few = omega (arith, r.few, k.few, develops.done);
          declared = subst IsScope (sym (scope-wider old new w)) r.declared;
          start = let B : Scope → Type 0 = λ x. IsBranch (with_rows x []) (start_in t2) in
              let L : List Literal → Type 0 = λ ls. IsBranch (with_rows (without_witnesses old.bank) []) ls in
              subst B (sym (scope-wider old new w)) (subst L (sym start-next) r.start);
          modest = subst (IsModestSetting 1024) (sym setting-next) r.modest;
          modest_start = subst (Each (IsModestLiteral 1024)) (sym start-next) r.modest_start;
          made =
              subst (Each (IsMadeInstance new)) (sym develops.steps.instances)
              (each-joined (IsMadeInstance new) t.steps.1 develops.steps.more (each-weaker (IsMadeInstance old) (IsMadeInstance new) (made-wider old new r.right.basis w) t.steps.1 r.made) develops.steps.good);
        }

-- THE SOLVER IS ASKED

module _ (t u : Tables) (q p : Queue Planned Delays) (tables : u ≡ record t { solver = u.solver }) (plan : p ≡ q) where
  pub state-solved : the_state u p ≡ the_state t q
  state-solved = ap₂ the_state tables plan

  pub setting-solved : setting_by u p ≡ setting_by t q
  setting-solved = ap₂ setting_by tables plan

  pub done-solved : u.done ≡ t.done
  done-solved = ap (λ (x : Tables). x.done) tables

  pub running-solved : IsRunning t q → IsRightState u p → IsRunning u p
  running-solved r right =
      let P : Tables → Queue Planned Delays → Type 0 = λ x y. IsRightState x y → IsRunning x y in
      let Q : Queue Planned Delays → Type 0 = λ y. P u y in
      let T : Tables → Type 0 = λ x. P x q in
      subst Q (sym plan)
      (subst T (sym tables)
      (λ good. record { right = good; comes_to = r.comes_to; range = r.range; within = r.within; few = r.few; declared = r.declared; start = r.start; modest = r.modest; modest_start = r.modest_start; made = r.made })) right

  pub goes-on-solved : (t2 : Tables) (q2 : Queue Planned Delays) → StepGoesOn (record { tables = u; plan = p }) (record { tables = t2; plan = q2 }) → StepGoesOn (record { tables = t; plan = q }) (record { tables = t2; plan = q2 })
  goes-on-solved t2 q2 g =
      let U : State → Type 0 = λ s. Unsatisfiable s.clauses → ⊥ in
      let L : State → Type 0 = λ s. s.queue ≢ [] in
      let same : p.rule.mode.commands ≡ q.rule.mode.commands = ap (λ (y : Queue Planned Delays). y.rule.mode.commands) plan in
      record {
        satisfiable = subst U state-solved g.satisfiable;
        some_left = subst L state-solved g.some_left;
        below = λ e. g.below (done-solved ∙ e ∙ sym same);
        next = sym (ap₂ (λ (x : Setting) (s : State). next_state x (Some s)) setting-solved state-solved) ∙ g.next;
        done = g.done ∙ ap (λ n. n + 1) done-solved;
      }
