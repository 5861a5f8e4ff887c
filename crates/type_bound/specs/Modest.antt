-- States of the search whose types nest no deeper than so much.
use Rattle.std.specs.Prelude.{◌≡◌, ◌≤◌, ℕ, suc, true, List, Option, Some, None}
use Rattle.stt_core.specs.Lambda.{Constant, name, witness, falsity, negation, implication, all, equality, choice, description, Lambda, bound, constant, lam, app, IsLeaf}
use Rattle.stt_core.specs.PlainProblem.{PlainProblem}
use Rattle.stt_core.specs.Declarations.{scope_of}
use Rattle.delta_defs.specs.Unfolding.{unfolded_problem}
use Rattle.tableau_calculus.specs.Literals.{Literal}
use Rattle.tableau_calculus.specs.Start.{start}
use Rattle.tableau_calculus.specs.Witnesses.{Row}
use Rattle.tableau_calculus.specs.Each.{Each}
use Rattle.search_spec.specs.Spine.{head_of, has_compared_head}
use Rattle.search_spec.specs.Partial.{Partial, hole, head, function, application}
use Rattle.search_spec.specs.State.{State, Setting, Command, process, mate, confront, inst, choose, describe, grow}
use Rattle.search_spec.specs.After.{state_after}
use Rattle.refute_print.specs.Sizes.{nesting}

-- A constant's own type nests no deeper than so much, one less for a choice or a description: its predicate's type may be one of an
-- equation.
abbrev pub IsModestConstant : ℕ → Constant → Type 0
IsModestConstant limit (name k) = Unit {0}
IsModestConstant limit (witness k) = Unit {0}
IsModestConstant limit falsity = Unit {0}
IsModestConstant limit negation = Unit {0}
IsModestConstant limit implication = Unit {0}
IsModestConstant limit (all a) = nesting a ≤ limit
IsModestConstant limit (equality a) = nesting a ≤ limit
IsModestConstant limit (choice a) = suc (nesting a) ≤ limit
IsModestConstant limit (description a) = suc (nesting a) ≤ limit

-- the types in a term, those of variables one more: a quantifier's eta-long form binds its predicate
abbrev pub IsModest : ℕ → Lambda → Type 0
IsModest limit (bound k) = Unit {0}
IsModest limit (constant c) = IsModestConstant limit c
IsModest limit (lam a s) = (nesting a ≤ suc limit) × IsModest limit s
IsModest limit (app s u) = IsModest limit s × IsModest limit u

abbrev pub IsModestLiteral : ℕ → Literal → Type 0
IsModestLiteral limit l = IsModest limit l.atom

abbrev pub IsModestPartial : ℕ → Partial → Type 0
IsModestPartial limit (hole n) = Unit {0}
IsModestPartial limit (head h) = IsModest limit h
IsModestPartial limit (function a p) = (nesting a ≤ suc limit) × IsModestPartial limit p
IsModestPartial limit (application p q) = IsModestPartial limit p × IsModestPartial limit q

abbrev pub IsModestRow : ℕ → Row → Type 0
IsModestRow limit r = (nesting r.type ≤ limit) × IsModest limit r.predicate

abbrev pub IsModestCommand : ℕ → Command → Type 0
IsModestCommand limit (process l) = IsModestLiteral limit l
IsModestCommand limit (mate l m) = (has_compared_head (head_of l.atom) ≡ true) × (IsModestLiteral limit l × IsModestLiteral limit m)
IsModestCommand limit (confront l m) = IsModestLiteral limit l × IsModestLiteral limit m
IsModestCommand limit (inst l u) = IsModestLiteral limit l × IsModest limit u
IsModestCommand limit (choose a f) = (suc (nesting a) ≤ limit) × IsModest limit f
IsModestCommand limit (describe a f) = (suc (nesting a) ≤ limit) × IsModest limit f
IsModestCommand limit (grow p h) = IsModestPartial limit p.partial × (IsLeaf h × IsModest limit h)

pub record IsModestState (limit : ℕ) (s : State) : Type 0 where
  pub clauses : Each (Each (IsModestLiteral limit)) s.clauses
  pub noted : Each (IsModestLiteral limit) s.noted
  pub terms : Each (λ u. IsModest limit u.term) s.terms
  pub rows : Each (IsModestRow limit) s.rows
  pub parked : Each (λ p. IsModestPartial limit p.partial) s.parked
  pub queue : Each (λ q. IsModestCommand limit q.command) s.queue

pub record IsModestSetting (limit : ℕ) (setting : Setting) : Type 0 where
  pub some : 1 ≤ limit
  pub names : Each (λ a. nesting a ≤ limit) setting.scope.names

-- the types of every state of a run nest no deeper than those of the start and of the names
abbrev pub RunsKeepTypes : Type 0
RunsKeepTypes =
    (limit : ℕ) (setting : Setting) (start : List Literal)
    → IsModestSetting limit setting
    → Each (IsModestLiteral limit) start
    → (n : ℕ) (s : State)
    → state_after setting start n ≡ Some s
    → IsModestState limit s

-- a problem's names, and the types in its formulas
abbrev pub IsModestIfAny : ℕ → Option Lambda → Type 0
IsModestIfAny limit None = Unit {0}
IsModestIfAny limit (Some t) = IsModest limit t

pub record IsModestProblem (limit : ℕ) (p : PlainProblem) : Type 0 where
  pub some : 1 ≤ limit
  pub names : Each (λ a. nesting a ≤ limit) (scope_of p.declared).names
  pub assumed : Each (IsModest limit) p.assumed
  pub conjecture : IsModestIfAny limit p.conjecture

-- a problem's start has types within a limit within which the problem's are
abbrev pub StartsKeepTypes : Type 0
StartsKeepTypes = (limit : ℕ) (p : PlainProblem) → IsModestProblem limit p → Each (IsModestLiteral limit) (start p)

-- unfolding definitions keeps types within a limit
abbrev pub UnfoldingKeepsTypes : Type 0
UnfoldingKeepsTypes = (limit : ℕ) (p : PlainProblem) → IsModestProblem limit p → IsModestProblem limit (unfolded_problem p)
