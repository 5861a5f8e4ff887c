-- Runs from their start to their end.
use Rattle.std.specs.Prelude.{◌≡◌, ◌≤◌, ◌^◌, ◌∷◌, ◌++◌, ℕ, zero, suc, Bool, true, false, List, [], map, filter, length, Some, slice_get, Contains, refl, Option, None}
use Rattle.std.specs.List.{All}
use Rattle.std.proofs.Common.{sym, ap, ap₂, subst, ◌∙◌, arith, inl, inr, cond}
use Rattle.stt_core.specs.Typing.{Scope}
use Rattle.stt_core.specs.PlainProblem.{PlainProblem}
use Rattle.stt_core.specs.Declarations.{scope_of}
use Rattle.tableau_calculus.specs.Literals.{Literal}
use Rattle.tableau_calculus.specs.Start.{start}
use Rattle.tableau_calculus.specs.Witnesses.{Row}
use Rattle.tableau_calculus.specs.Accepted.{Within, EndsWithin, IsAccepted}
use Rattle.tableau_calculus.specs.Rules.{PlainRule}
use Rattle.tableau_calculus.specs.declared.rule_use.RuleUse.TheVariants.{Cut}
use Rattle.tableau_calculus.specs.declared.refutation.Line.{Line}
use Rattle.tableau_calculus.specs.declared.refutation.Refutation.{Refutation}
use Rattle.tableau_calculus.proofs.ListLaws.{contains-first, contains-later, contains_cases}
use Rattle.sat_base.specs.declared.literal.Var.{Var}
use Rattle.sat_base.specs.declared.literal.SatLit.{SatLit}
use Rattle.sat_base.specs.Truth.{Implies}
use Rattle.sat_log.specs.Chains.{results}
use Rattle.sat_log.specs.Propagation.{AreFailingDecisions}
use Rattle.sat_core.specs.Solver.{learned, AreAmong, IsSound}
use Rattle.tableau_clauses.specs.Table.{the_clauses}
use Rattle.search_spec.specs.Shallow.{is_shallow_literal}
use Rattle.search_spec.specs.Unsatisfiable.{Clause}
use Rattle.search_spec.specs.State.{State, Setting, process, with_commands}
use Rattle.search_spec.specs.Offers.{offered_heads}
use Rattle.search_spec.specs.After.{nothing_yet, next_state, state_after}
use Rattle.search_spec.specs.Result.{GoesOn, GoesOnUntil, IsExhausted, IsStopped}
use Rattle.command_queue.specs.Queue.{Queue}
use Rattle.mode_file.specs.declared.Mode.{Mode}
use Rattle.term_bank.specs.Content.{Content, content_scope}
use Rattle.term_bank.specs.Laws.{EqualIdsForEqualTerms}
use Rattle.prover_state.specs.declared.command.Planned.{Planned}
use Rattle.prover_state.specs.declared.command.Delays.{Delays}
use Rattle.prover_state.specs.declared.tables.Tables.{Tables}
use Rattle.prover_state.specs.Internal.Standing.{without_witnesses, setting_by, the_state, IsRightState}
use Rattle.prover_state.proofs.NumberLaws.{apart, clauses_number}
use Rattle.prover_search.specs.Internal.Running.{start_in, IsRunning}
use Rattle.prover_search.specs.Internal.Progress.{Progress}
use Rattle.prover_search.specs.Internal.Answers.{StepCloses, IsEmpty, IsAtLimit, StepSpends as IsSpentAt, StepGoesOn as GoesOnBy}
use Rattle.prover_run.specs.declared.ended.Ended.{Ended}
use Rattle.prover_run.specs.declared.ended.Ended.TheVariants.{Proved, GaveUp, CommandLimit, ConflictLimit}
use Rattle.prover_run.specs.Ended.{setting_for, IsSpent, EndsAs}
use Rattle.prover_run.specs.Learning.{HasLearned, AreSpent}
use Rattle.prover_run.specs.Origin.{ComesFromBy, AreRefutedShortly}
use Rattle.prover_run.specs.Tree.{IsTreeAsked}
use Rattle.prover_run.specs.Internal.Ends.{RefutesWithTree, EndsFrom}
use Rattle.rebuild_spec.specs.Input.{Input, Sourced, start_unit, clause_by}
use Rattle.rebuild_spec.specs.Given.{IsRightClause, IsGiven}
use Rattle.search_spec.specs.Numbered.{literal_at}
use Rattle.plain_tableau.specs.declared.stripped.Stripped.{Stripped}
use Rattle.prover_run.proofs.GivenUses.{table_declared}
use Rattle.prover_run.proofs.TreeUses.{of_tree}
use Rattle.prover_run.proofs.RebuildUses.{learning-named}

-- A STEP

module _ (t : Tables) (q : Queue Planned Delays) (r : IsRunning t q) (t2 : Tables) (q2 : Queue Planned Delays) where
  abbrev old : Progress
  old = record { tables = t; plan = q }

  abbrev new : Progress
  new = record { tables = t2; plan = q2 }

  pub goes-on : GoesOnBy old new → GoesOn (setting_by t q) (start_in t) t.done
  goes-on g = record { state = the_state t q; open_state = record { comes_to = r.comes_to; satisfiable = g.satisfiable }; some_left = g.some_left; below = g.below }

  -- no more clauses are learned than the mode has conflicts
  budget_kept : IsRightState t2 q2 → setting_by t2 q2 ≡ setting_by t q → length (learned t2.solver) ≤ q.rule.mode.conflicts
  budget_kept right same = subst (λ n. length (learned t2.solver) ≤ n) (ap (λ (s : Setting). s.mode.conflicts) same) right.budget

  pub is-proved : (refutation : Refutation) (nodes : Option ℕ) (tree : Option Stripped) → StepCloses old new → IsRightState t2 q2 → setting_by t2 q2 ≡ setting_by t q
      → RefutesWithTree (setting_by t q).scope (start_in t) (the_state t q).rows (the_state t q).clauses (length (learned t2.solver)) refutation nodes tree
      → GoesOnUntil (setting_by t q) (start_in t) t.done → EndsFrom (setting_by t q) (start_in t) nodes (Proved t2.done refutation tree)
  is-proved refutation nodes tree k right same whole until =
      let P : ℕ → Type 0 = λ n. EndsFrom (setting_by t q) (start_in t) nodes (Proved n refutation tree) in
      let refutes = whole.refutes in
      let within = refutes.within in
      subst P (sym k.stays.done) (
        record {
          proved = record { until = until; state = the_state t q; comes_to = r.comes_to; unsatisfiable = k.unsatisfiable };
          refutes = record {
            accepted = refutes.accepted;
            reached = refutes.reached;
            small = refutes.small;
            origin = refutes.origin;
            within = record { learning = within.learning; counted = omega (arith, within.counted, budget_kept right same); reaches = within.reaches; propagates = within.propagates };
            shortly = refutes.shortly;
          };
        },
        whole.tree,
      )

  pub is-exhausted : IsEmpty old new → GoesOnUntil (setting_by t q) (start_in t) t.done → IsExhausted (setting_by t q) (start_in t) t2.done
  is-exhausted k until =
      let P : ℕ → Type 0 = λ n. IsExhausted (setting_by t q) (start_in t) n in
      subst P (sym k.stays.done) (record { until = until; state = the_state t q; open_state = record { comes_to = r.comes_to; satisfiable = k.satisfiable }; none_left = k.none_left })

  pub is-stopped : IsAtLimit old new → GoesOnUntil (setting_by t q) (start_in t) t.done → IsStopped (setting_by t q) (start_in t) t2.done
  is-stopped k until =
      let P : ℕ → Type 0 = λ n. IsStopped (setting_by t q) (start_in t) n in
      subst P (sym k.stays.done) (record { until = until; state = the_state t q; open_state = record { comes_to = r.comes_to; satisfiable = k.satisfiable }; some_left = k.some_left; at_limit = k.at_limit })

  -- the conflicts are spent over the clauses that the new tables have
  pub is-spent : (conflicts : ℕ) → IsSpentAt old new conflicts → IsRightState t2 q2 → EqualIdsForEqualTerms t2.basis.bank
      → ((v w id : ℕ) → slice_get t2.basis.lits v ≡ Some id → slice_get t2.basis.lits w ≡ Some id → v ≡ w) → IsSound t2.solver → All (Implies t2.solver.clauses) (results t2.solver.log)
      → GoesOnUntil (setting_by t q) (start_in t) t.done → IsSpent (setting_by t q) (start_in t) conflicts
  is-spent conflicts k right equal differ sound implied until =
      let F : List (List SatLit) → Type 0 = λ cs. AreFailingDecisions (cs ++ learned t2.solver) k.decisions in
      let A : List (List SatLit) → Type 0 = λ cs. (variables : List Var) → AreAmong variables cs → 3 ^ length variables ≤ conflicts → ⊥ in
      let S : List Clause → Type 0 = λ cs. AreSpent cs conflicts in
      let over = clauses_number t2.basis.bank t2.basis.lits right.basis.atoms equal differ (the_clauses t2.steps) right.clauses in
      let apart_here = apart t2.basis.bank t2.basis.lits right.basis.atoms equal differ in
      record {
        is_budget = k.reported;
        commands = t.done;
        until = until;
        state = the_state t q;
        comes_to = r.comes_to;
        spent = subst S (ap (λ (s : State). s.clauses) k.stays.state)
            (record {
              learning = learning-named t2.basis right.basis t2.steps right.clauses t2.solver apart_here over right.solver sound implied;
              counted = k.counted;
              decisions = k.decisions;
              failing = subst F right.solver k.failing;
              few = subst A right.solver k.few;
            });
      }

-- MANY STEPS

pub until-nothing : (setting : Setting) (ls : List Literal) → GoesOnUntil setting ls 0
until-nothing setting ls m h = absurd (omega (arith, h))

-- THE START OF A PROBLEM

filter_again : {X : Type 0} (test : X → Bool) (xs : List X) → filter test (filter test xs) ≡ filter test xs
filter_again test [] = refl
filter_again test (x ∷ xs) = go (test x) refl (filter_again test xs)
  where
    go : (b : Bool) → test x ≡ b → filter test (filter test xs) ≡ filter test xs → filter test (cond b (x ∷ filter test xs) (filter test xs)) ≡ cond b (x ∷ filter test xs) (filter test xs)
    go true e rest = ap₂ (λ c ys. cond c (x ∷ ys) ys) e rest
    go false e rest = rest

-- literals that are too deep don't count
pub after_shallow : (setting : Setting) (ls : List Literal) (n : ℕ) → state_after setting (filter is_shallow_literal ls) n ≡ state_after setting ls n
after_shallow setting ls zero = ap (λ ks. Some (with_commands setting.mode (map process ks) (record nothing_yet { clauses = map (λ l. l ∷ []) ks; seen = ks; offers = offered_heads setting.mode setting.scope ks }))) (filter_again is_shallow_literal ls)
after_shallow setting ls (suc n) = ap (next_state setting) (after_shallow setting ls n)

module _ (setting : Setting) (ls : List Literal) where
  abbrev few : List Literal
  few = filter is_shallow_literal ls

  goes_on_whole : (n : ℕ) → GoesOn setting few n → GoesOn setting ls n
  goes_on_whole n g = record {
    state = g.state;
    open_state = record { comes_to = sym (after_shallow setting ls n) ∙ g.open_state.comes_to; satisfiable = g.open_state.satisfiable };
    some_left = g.some_left;
    below = g.below;
  }

  pub until_whole : (n : ℕ) → GoesOnUntil setting few n → GoesOnUntil setting ls n
  until_whole n until m h = goes_on_whole m (until m h)

  pub exhausted-whole : (n : ℕ) → IsExhausted setting few n → IsExhausted setting ls n
  exhausted-whole n p = record {
    until = until_whole n p.until;
    state = p.state;
    open_state = record { comes_to = sym (after_shallow setting ls n) ∙ p.open_state.comes_to; satisfiable = p.open_state.satisfiable };
    none_left = p.none_left;
  }

  pub stopped-whole : (n : ℕ) → IsStopped setting few n → IsStopped setting ls n
  stopped-whole n p = record {
    until = until_whole n p.until;
    state = p.state;
    open_state = record { comes_to = sym (after_shallow setting ls n) ∙ p.open_state.comes_to; satisfiable = p.open_state.satisfiable };
    some_left = p.some_left;
    at_limit = p.at_limit;
  }

none_held : {X : Type 0} (x : X) → Contains [] x → ⊥
none_held x h = omega (arith, h.1)

held_whole : (test : Literal → Bool) (ls : List Literal) (l : Literal) → Contains (filter test ls) l → Contains ls l
held_whole test [] l h = absurd (none_held l h)
held_whole test (k ∷ ls) l h = go (test k) (λ c. contains-later l k ls (held_whole test ls l c)) h
  where
    go : (b : Bool) → (Contains (filter test ls) l → Contains (k ∷ ls) l) → Contains (cond b (k ∷ filter test ls) (filter test ls)) l → Contains (k ∷ ls) l
    go true later c = contains_cases (Contains (k ∷ ls) l) l k (filter test ls) c (λ e. subst (Contains (k ∷ ls)) e (contains-first k ls)) later
    go false later c = later c

within_whole : (branch ls : List Literal) → Within branch (filter is_shallow_literal ls) → Within branch ls
within_whole [] ls h = tt
within_whole (l ∷ branch) ls h = (held_whole is_shallow_literal ls l h.0, within_whole branch ls h.1)

accepted_whole : (scope : Scope) (ls : List Literal) (refutation : Refutation) → IsAccepted scope (filter is_shallow_literal ls) refutation → IsAccepted scope ls refutation
accepted_whole scope ls refutation a = record {
  table = a.table;
  lines = a.lines;
  last = record { front = a.last.front; last = a.last.last; are = a.last.are; within = within_whole a.last.last.branch ls a.last.within };
}

comes_whole : (rule : PlainRule) (ls : List Literal) (clauses : List Clause) (l : Line) → ComesFromBy rule (filter is_shallow_literal ls) clauses l → ComesFromBy rule ls clauses l
comes_whole (Cut literal) ls clauses l h = h
comes_whole rule ls clauses l (inr from) = inr from
comes_whole rule ls clauses l (inl h) =
    inl (record {
      first = h.first;
      second = h.second;
      rule = h.rule;
      branch = h.branch;
      first_in = held_whole is_shallow_literal ls h.first h.first_in;
      second_in = held_whole is_shallow_literal ls h.second h.second_in;
    })

right_whole : (scope : Scope) (ls : List Literal) (input : Input) (c : Sourced) → IsRightClause scope (filter is_shallow_literal ls) input c → IsRightClause scope ls input c
right_whole scope ls input (start_unit l) h = held_whole is_shallow_literal ls (literal_at input.atoms l) h
right_whole scope ls input (clause_by c i) h = h

given_whole : (scope : Scope) (ls : List Literal) (input : Input) → IsGiven scope (filter is_shallow_literal ls) input → IsGiven scope ls input
given_whole scope ls input given = record { table = given.table; atoms = given.atoms; clauses = λ n c at. right_whole scope ls input c (given.clauses n c at) }

unfoldable shortly_whole : (scope : Scope) (ls : List Literal) (rows : List Row) (clauses : List Clause) (learning : HasLearned clauses) (refutation : Refutation)
    → AreRefutedShortly scope (filter is_shallow_literal ls) rows clauses learning refutation → AreRefutedShortly scope ls rows clauses learning refutation
shortly_whole scope ls rows clauses learning refutation h = record {
  input = h.input;
  atoms = h.atoms;
  rows = h.rows;
  numbered = h.numbered;
  given = given_whole scope ls h.input h.given;
  instances = h.instances;
  logged = h.logged;
  ends = h.ends;
  rebuilt = h.rebuilt;
  few = h.few;
}

-- what comes of a tree, with a refutation that is accepted for the whole start
tree_whole : (scope : Scope) (ls : List Literal) (input : Input) (nodes : Option ℕ) (tree : Option Stripped) → IsTreeAsked scope (filter is_shallow_literal ls) (filter is_shallow_literal ls) input nodes tree → IsTreeAsked scope ls (filter is_shallow_literal ls) input nodes tree
tree_whole scope ls input None None h = tt
tree_whole scope ls input None (Some s) h = h
tree_whole scope ls input (Some n) None h = h
tree_whole scope ls input (Some n) (Some s) h = record {
  instances = h.instances;
  used = h.used;
  branch = h.branch;
  numbered = h.numbered;
  begins = h.begins;
  comes = h.comes;
  accepted = of_tree (IsAccepted scope (filter is_shallow_literal ls)) (IsAccepted scope ls) (accepted_whole scope ls) s h.accepted;
  no_cut = h.no_cut;
  within = h.within;
  reached = h.reached;
  small = h.small;
}

-- what ends from the literals of a problem that aren't too deep, ends from the problem's start
module _ (p : PlainProblem) (m : Mode) (setting : Setting) (ls : List Literal) (is_setting : setting ≡ setting_for p m) (is_start : ls ≡ filter is_shallow_literal (start p)) where
  ends_here : (nodes : Option ℕ) (e : Ended) → EndsFrom (setting_for p m) (filter is_shallow_literal (start p)) nodes e → EndsAs p m nodes e
  unfolding shortly_whole
  ends_here nodes (Proved n refutation tree) (k, asked) = (
    record {
      proved = record { until = until_whole (setting_for p m) (start p) n k.proved.until; state = k.proved.state; comes_to = sym (after_shallow (setting_for p m) (start p) n) ∙ k.proved.comes_to; unsatisfiable = k.proved.unsatisfiable };
      accepted = accepted_whole (scope_of p.declared) (start p) refutation k.refutes.accepted;
      reached = k.refutes.reached;
      small = k.refutes.small;
      origin = λ l there. comes_whole l.rule (start p) k.proved.state.clauses l (k.refutes.origin l there);
      within = k.refutes.within;
      shortly = shortly_whole (scope_of p.declared) (start p) k.proved.state.rows k.proved.state.clauses k.refutes.within.learning refutation k.refutes.shortly;
    },
    tree_whole (scope_of p.declared) (start p) k.refutes.shortly.input nodes tree asked,
  )
  ends_here nodes (GaveUp n) k = exhausted-whole (setting_for p m) (start p) n k
  ends_here nodes (CommandLimit n) k = stopped-whole (setting_for p m) (start p) n k
  ends_here nodes (ConflictLimit c) k = record {
    is_budget = k.is_budget;
    commands = k.commands;
    until = until_whole (setting_for p m) (start p) k.commands k.until;
    state = k.state;
    comes_to = sym (after_shallow (setting_for p m) (start p) k.commands) ∙ k.comes_to;
    spent = k.spent;
  }

  pub ends-as : (nodes : Option ℕ) (e : Ended) → EndsFrom setting ls nodes e → EndsAs p m nodes e
  ends-as nodes e k =
      let S : Setting → Type 0 = λ s. EndsFrom s (filter is_shallow_literal (start p)) nodes e in
      let L : List Literal → Type 0 = λ ks. EndsFrom setting ks nodes e in
      ends_here nodes e (subst S is_setting (subst L is_start k))

-- A REFUTATION OVER THE BANK

-- what is accepted over a bank is accepted over what it declares, its witnesses apart
pub accepted-declared : (b : Content) (ls ks : List Literal) (refutation : Refutation) → ks ≡ ls → IsAccepted (content_scope b) ks refutation → IsAccepted (without_witnesses b) ls refutation
accepted-declared b ls ks refutation same a =
    let L : List Literal → Type 0 = λ xs. EndsWithin xs refutation.lines in
    record { table = table_declared b [] refutation.witnesses a.table; lines = a.lines; last = subst L same a.last }
