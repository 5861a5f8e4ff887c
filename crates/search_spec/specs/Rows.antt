-- Worked examples: problems, and the commands of their runs.
use Rattle.std.specs.Prelude.{◌≡◌, ℕ, List, [], ◌∷◌, drop, map, Some, option_map}
use Rattle.stt_core.specs.SimpleType.{SimpleType, base, arrow, predicate}
use Rattle.stt_core.specs.Lambda.{name, witness, falsity, negation, implication, all, equality, choice, description, Lambda, bound, constant, lam, app, neg, imp, eq, every}
use Rattle.tableau_calculus.specs.Literals.{Literal, plus, minus, opposite}
use Rattle.search_spec.specs.Mode.{standard_mode}
use Rattle.search_spec.specs.Partial.{Hole}
use Rattle.search_spec.specs.Heads.{fitting_heads}
use Rattle.search_spec.specs.Offers.{offered_heads}
use Rattle.command_queue.specs.declared.entry.Entry.{Entry}
use Rattle.search_spec.specs.State.{Setting, Command, process, mate, confront, inst, choose, describe}
use Rattle.search_spec.specs.After.{starting_state, state_after}
use Rattle.search_spec.specs.Trace.{trace}

abbrev pub i : SimpleType
i = base 1

abbrev pub named : ℕ → Lambda
named k = constant (name k)

abbrev pub one_setting : List SimpleType → Setting
one_setting names = record { scope = record { bases = 0; names = names; witnesses = [] }; mode = standard_mode }

-- the same, where the moment is the one at which a command was due
abbrev pub by_due : Setting → Setting
by_due setting = record setting { mode = record standard_mode { clock = 1 } }

-- the same, where commands that bring in a default wait longer
abbrev pub with_defaults_late : Setting → Setting
with_defaults_late setting = record setting { mode = record standard_mode { defaults = 8 } }

-- the same, where witnesses and the sides of negated equations between functions are terms at once
abbrev pub with_terms_offered : Setting → Setting
with_terms_offered setting = record setting { mode = record standard_mode { terms = 1 } }

-- the same, where only heads are offered that occur in the start
abbrev pub with_seen_heads : Setting → Setting
with_seen_heads setting = record setting { mode = record standard_mode { names = 1 } }

-- the heads that fit a hole in the runs from a start
abbrev pub heads_at : Setting → List Literal → Hole → List Lambda
heads_at setting start h = fitting_heads (offered_heads setting.mode setting.scope start) setting.scope h

abbrev pub commands : List (Entry Command) → List Command
commands queue = map (λ q. q.command) queue

abbrev pub dues : List (Entry Command) → List (ℕ × ℕ)
dues queue = map (λ q. (q.due, q.number)) queue

-- `all.p`: a: $i > $o and c: $i, with ! [X] : a X and the conjecture a c
abbrev pub all_setting : Setting
all_setting = one_setting (predicate i ∷ i ∷ [])

abbrev pub all_universal : Literal
all_universal = plus (every i (lam i (app (named 0) (bound 0))))

abbrev pub all_goal : Literal
all_goal = minus (app (named 0) (named 1))

abbrev pub default : Lambda
default = app (constant (choice i)) (lam i (constant falsity))

abbrev pub all_start : List Literal
all_start = all_universal ∷ all_goal ∷ []

abbrev pub all_commands : List Command
all_commands =
    process all_universal
    ∷ process all_goal
    ∷ inst all_universal default
    ∷ process (plus (app (named 0) default))
    ∷ mate (plus (app (named 0) default)) all_goal
    ∷ process (minus (eq i default (named 1)))
    ∷ choose i (lam i (constant falsity))
    ∷ inst all_universal (named 1)
    ∷ []

-- two functions that agree everywhere, f and g: $i > $i
abbrev pub agree_setting : Setting
agree_setting = one_setting (arrow i i ∷ arrow i i ∷ [])

abbrev pub agree_everywhere : Literal
agree_everywhere = plus (every i (lam i (eq i (app (named 0) (bound 0)) (app (named 1) (bound 0)))))

abbrev pub agree_goal : Literal
agree_goal = minus (eq (arrow i i) (lam i (app (named 0) (bound 0))) (lam i (app (named 1) (bound 0))))

-- what p holds of, p: $i > $o, is chosen by p
abbrev pub chosen_setting : Setting
chosen_setting = one_setting (predicate i ∷ [])

abbrev pub p_of : Lambda
p_of = lam i (app (named 0) (bound 0))

abbrev pub some_p : Literal
some_p = minus (every i (lam i (neg (app (named 0) (bound 0)))))

abbrev pub p_of_chosen : Literal
p_of_chosen = minus (app (named 0) (app (constant (choice i)) p_of))

-- p: $i > $o holds of something, and of nothing else, and the conjecture is that it holds of what it describes
abbrev pub p_at : Lambda → Lambda
p_at t = app (named 0) t

abbrev pub only_p : Literal
only_p = plus (every i (lam i (every i (lam i (imp (p_at (bound 1)) (imp (p_at (bound 0)) (eq i (bound 1) (bound 0))))))))

abbrev pub p_of_described : Literal
p_of_described = minus (p_at (app (constant (description i)) p_of))

abbrev pub described_start : List Literal
described_start = some_p ∷ only_p ∷ p_of_described ∷ []

-- a = b, and the conjecture b = a
abbrev pub sym_setting : Setting
sym_setting = one_setting (i ∷ i ∷ [])

abbrev pub a_is_b : Literal
a_is_b = plus (eq i (named 0) (named 1))

abbrev pub b_is_not_a : Literal
b_is_not_a = minus (eq i (named 1) (named 0))

-- c: $i, and the conjecture that something holds of it
abbrev pub some_setting : Setting
some_setting = one_setting (i ∷ [])

abbrev pub none_holds : Literal
none_holds = plus (every (predicate i) (lam (predicate i) (neg (app (bound 0) (named 0)))))

abbrev pub AllRuns : Type 0
AllRuns =
    (commands (trace all_setting 8 (Some (starting_state all_setting all_start))) ≡ all_commands)
    × (dues (trace all_setting 8 (Some (starting_state all_setting all_start)))
    ≡ (0, 0) ∷ (0, 1) ∷ (2, 2) ∷ (3, 3) ∷ (5, 4) ∷ (5, 6) ∷ (6, 5) ∷ (7, 7) ∷ [])

-- the second command's clause denies what the first literal says, so that the clauses are unsatisfiable
abbrev pub AgreeRuns : Type 0
AgreeRuns =
    (commands (trace agree_setting 2 (Some (starting_state agree_setting (agree_everywhere ∷ agree_goal ∷ []))))
    ≡ process agree_everywhere ∷ process agree_goal ∷ [])
    × (option_map (λ s. s.clauses) (state_after agree_setting (agree_everywhere ∷ agree_goal ∷ []) 2)
    ≡ Some ((agree_everywhere ∷ []) ∷ (agree_goal ∷ []) ∷ (opposite agree_goal ∷ opposite agree_everywhere ∷ []) ∷ []))

abbrev pub ChosenRuns : Type 0
ChosenRuns =
    commands (trace chosen_setting 4 (Some (starting_state chosen_setting (some_p ∷ p_of_chosen ∷ []))))
    ≡ process some_p ∷ process p_of_chosen ∷ process (plus (app (named 0) (constant (witness 0)))) ∷ choose i p_of ∷ []

-- the sixth command's clause denies what the three literals say, so that the clauses are unsatisfiable
abbrev pub DescribedRuns : Type 0
DescribedRuns =
    (commands (trace chosen_setting 6 (Some (starting_state chosen_setting described_start)))
    ≡ process some_p ∷ process only_p ∷ process p_of_described ∷ process (plus (p_at (constant (witness 0)))) ∷ inst only_p default
    ∷ describe i p_of ∷ [])
    × (option_map (λ s. drop 5 s.clauses) (state_after chosen_setting described_start 6)
    ≡ Some ((opposite some_p ∷ opposite only_p ∷ opposite p_of_described ∷ []) ∷ []))

abbrev pub SymRuns : Type 0
SymRuns =
    commands (trace sym_setting 6 (Some (starting_state sym_setting (a_is_b ∷ b_is_not_a ∷ []))))
    ≡ process a_is_b ∷ process b_is_not_a ∷ confront a_is_b b_is_not_a ∷ process (minus (eq i (named 0) (named 1)))
    ∷ process (minus (eq i (named 1) (named 1))) ∷ process (minus (eq i (named 0) (named 0))) ∷ []

abbrev pub SomeRuns : Type 0
SomeRuns =
    (dues (trace some_setting 28 (Some (starting_state some_setting (none_holds ∷ []))))
    ≡ (0, 0) ∷ (5, 1) ∷ (3, 7) ∷ (3, 8) ∷ (5, 2) ∷ (5, 3) ∷ (5, 4) ∷ (5, 5) ∷ (5, 6) ∷ (9, 9) ∷ (9, 10) ∷ (9, 11) ∷ (9, 12)
    ∷ (9, 13)
    ∷ (9, 14) ∷ (10, 15) ∷ (10, 16) ∷ (10, 17) ∷ (10, 18) ∷ (10, 19) ∷ (10, 20) ∷ (11, 21) ∷ (11, 22) ∷ (11, 23) ∷ (11, 24)
    ∷ (11, 25) ∷ (11, 26) ∷ (11, 36) ∷ [])
    × (option_map (λ s. s.clauses) (state_after some_setting (none_holds ∷ []) 28)
    ≡ Some
    ((none_holds ∷ []) ∷ (opposite none_holds ∷ minus (constant falsity) ∷ [])
    ∷ (opposite none_holds ∷ plus (constant falsity) ∷ []) ∷ []))

-- the first problem's commands are the same ones, and are due earlier; the last problem's come in another order: what the first term gives,
-- which was pushed as number 35, goes before what was pushed as number 8
abbrev pub DueRuns : Type 0
DueRuns =
    (commands (trace (by_due all_setting) 8 (Some (starting_state (by_due all_setting) all_start))) ≡ all_commands)
    × (dues (trace (by_due all_setting) 8 (Some (starting_state (by_due all_setting) all_start)))
    ≡ (0, 0) ∷ (0, 1) ∷ (1, 2) ∷ (1, 3) ∷ (2, 4) ∷ (2, 6) ∷ (3, 5) ∷ (3, 7) ∷ [])
    × (dues (trace (by_due some_setting) 37 (Some (starting_state (by_due some_setting) (none_holds ∷ []))))
    ≡ (0, 0) ∷ (4, 1) ∷ (4, 2) ∷ (4, 3) ∷ (4, 4) ∷ (4, 5) ∷ (4, 6) ∷ (5, 7) ∷ (5, 35) ∷ (8, 8) ∷ (8, 9) ∷ (8, 10) ∷ (8, 11)
    ∷ (8, 12) ∷ (8, 13) ∷ (8, 14) ∷ (8, 15) ∷ (8, 16) ∷ (8, 17) ∷ (8, 18) ∷ (8, 19) ∷ (8, 20) ∷ (8, 21) ∷ (8, 22) ∷ (8, 23)
    ∷ (8, 24) ∷ (8, 25) ∷ (8, 26) ∷ (8, 27) ∷ (8, 28) ∷ (8, 29) ∷ (8, 30) ∷ (8, 31) ∷ (8, 32) ∷ (8, 33) ∷ (8, 34) ∷ (9, 36)
    ∷ [])
    × (option_map (λ s. s.clauses) (state_after (by_due some_setting) (none_holds ∷ []) 37)
    ≡ Some
    ((none_holds ∷ []) ∷ (opposite none_holds ∷ minus (constant falsity) ∷ [])
    ∷ (opposite none_holds ∷ plus (constant falsity) ∷ []) ∷ []))

-- p: $i > $o holds of something, all is c, and the conjecture is that p holds of c
abbrev pub all_c : Literal
all_c = plus (every i (lam i (eq i (bound 0) (named 1))))

abbrev pub all_c_start : List Literal
all_c_start = some_p ∷ all_c ∷ minus (p_at (named 1)) ∷ []

-- the witness of what p holds of is a term before the type's first one, and the instance with it is made first
abbrev pub OfferedRuns : Type 0
OfferedRuns =
    (commands (trace (with_terms_offered all_setting) 7 (Some (starting_state (with_terms_offered all_setting) all_c_start)))
    ≡ process some_p ∷ process all_c ∷ process (minus (p_at (named 1))) ∷ process (plus (p_at (constant (witness 0))))
    ∷ inst all_c (constant (witness 0)) ∷ inst all_c default ∷ mate (plus (p_at (constant (witness 0)))) (minus (p_at (named 1))) ∷ [])
    × (dues (trace (with_terms_offered all_setting) 7 (Some (starting_state (with_terms_offered all_setting) all_c_start)))
    ≡ (0, 0) ∷ (0, 1) ∷ (0, 2) ∷ (1, 3) ∷ (3, 4) ∷ (3, 5) ∷ (5, 6) ∷ [])
    × (commands (trace all_setting 6 (Some (starting_state all_setting all_c_start)))
    ≡ process some_p ∷ process all_c ∷ process (minus (p_at (named 1))) ∷ process (plus (p_at (constant (witness 0))))
    ∷ inst all_c default ∷ mate (plus (p_at (constant (witness 0)))) (minus (p_at (named 1))) ∷ [])

-- the mating comes before the instance with the default term, and then the instance with the witness
abbrev pub DelayedRuns : Type 0
DelayedRuns =
    (commands (trace (with_defaults_late all_setting) 7 (Some (starting_state (with_defaults_late all_setting) all_c_start)))
    ≡ process some_p ∷ process all_c ∷ process (minus (p_at (named 1))) ∷ process (plus (p_at (constant (witness 0))))
    ∷ mate (plus (p_at (constant (witness 0)))) (minus (p_at (named 1))) ∷ process (minus (eq i (constant (witness 0)) (named 1)))
    ∷ inst all_c (constant (witness 0)) ∷ [])
    × (dues (trace (with_defaults_late all_setting) 7 (Some (starting_state (with_defaults_late all_setting) all_c_start)))
    ≡ (0, 0) ∷ (0, 1) ∷ (0, 2) ∷ (1, 3) ∷ (5, 5) ∷ (5, 6) ∷ (7, 7) ∷ [])

-- c: $i, and d: $i, q: $i > $o and a base type, of which the conjecture says nothing: that something holds of c
abbrev pub unseen_setting : Setting
unseen_setting = record { scope = record { bases = 1; names = i ∷ i ∷ predicate i ∷ []; witnesses = [] }; mode = standard_mode }

-- Of the names c alone is offered, of the base types $i, and a choice where nothing else fits, or where a description occurs.
abbrev pub SeenHeads : Type 0
SeenHeads =
    (heads_at unseen_setting (none_holds ∷ []) (record { base = 1; context = i ∷ [] })
    ≡ bound 0 ∷ named 0 ∷ named 1 ∷ constant (choice i) ∷ [])
    × (heads_at (with_seen_heads unseen_setting) (none_holds ∷ []) (record { base = 1; context = i ∷ [] }) ≡ bound 0 ∷ named 0 ∷ [])
    × (heads_at (with_seen_heads unseen_setting) (none_holds ∷ []) (record { base = 2; context = i ∷ [] })
    ≡ constant (choice (base 2)) ∷ [])
    × (heads_at (with_seen_heads unseen_setting) (none_holds ∷ []) (record { base = 0; context = i ∷ [] })
    ≡ constant falsity ∷ constant negation ∷ constant implication ∷ constant (equality (base 0)) ∷ constant (equality i)
    ∷ constant (all i) ∷ [])
    × (heads_at (with_seen_heads chosen_setting) described_start (record { base = 1; context = i ∷ [] })
    ≡ bound 0 ∷ constant (choice i) ∷ [])

-- what doesn't occur makes no difference: the run is that of the problem with c alone, but for the choices
abbrev pub SeenRuns : Type 0
SeenRuns =
    SeenHeads
    × (dues (trace (with_seen_heads unseen_setting) 28 (Some (starting_state (with_seen_heads unseen_setting) (none_holds ∷ []))))
    ≡ (0, 0) ∷ (5, 1) ∷ (3, 7) ∷ (3, 8) ∷ (5, 2) ∷ (5, 3) ∷ (5, 4) ∷ (5, 5) ∷ (5, 6) ∷ (9, 9) ∷ (9, 10) ∷ (9, 11) ∷ (9, 12)
    ∷ (9, 13) ∷ (9, 14) ∷ (10, 15) ∷ (10, 16) ∷ (10, 17) ∷ (10, 18) ∷ (10, 19) ∷ (10, 20) ∷ (11, 21) ∷ (11, 22) ∷ (11, 23)
    ∷ (11, 24) ∷ (11, 25) ∷ (11, 26) ∷ (11, 35) ∷ [])
    × (option_map (λ s. s.clauses) (state_after (with_seen_heads unseen_setting) (none_holds ∷ []) 28)
    ≡ Some
    ((none_holds ∷ []) ∷ (opposite none_holds ∷ minus (constant falsity) ∷ [])
    ∷ (opposite none_holds ∷ plus (constant falsity) ∷ []) ∷ []))
