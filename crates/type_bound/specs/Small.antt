-- States of the search whose terms are small enough for a text.
use Rattle.std.specs.Prelude.{◌≡◌, ◌≤◌, ℕ, List, Some}
use Rattle.tableau_calculus.specs.Literals.{Literal}
use Rattle.tableau_calculus.specs.Each.{Each}
use Rattle.search_spec.specs.State.{State, Setting, Command, process, mate, confront, inst, choose, describe, grow}
use Rattle.search_spec.specs.After.{state_after}
use Rattle.refute_print.specs.Sizes.{type_limit, type_depth, IsSmallTerm}
use Rattle.type_bound.specs.Modest.{IsModestLiteral, IsModestSetting}

abbrev pub IsSmallLiteral : Literal → Type 0
IsSmallLiteral l = IsSmallTerm l.atom

-- A command's literals and predicates are small. The types of a term for an instance are; how deep it is is looked at when the command is
-- carried out.
abbrev pub IsSmallCommand : Command → Type 0
IsSmallCommand (process l) = IsSmallLiteral l
IsSmallCommand (mate l m) = IsSmallLiteral l × IsSmallLiteral m
IsSmallCommand (confront l m) = IsSmallLiteral l × IsSmallLiteral m
IsSmallCommand (inst l u) = IsSmallLiteral l × (type_depth u ≤ type_limit)
IsSmallCommand (choose a f) = IsSmallTerm f
IsSmallCommand (describe a f) = IsSmallTerm f
IsSmallCommand (grow p h) = Unit {0}

pub record StateHasSmallTerms (s : State) : Type 0 where
  pub clauses : Each (Each IsSmallLiteral) s.clauses
  pub rows : Each (λ r. IsSmallTerm r.predicate) s.rows
  pub queue : Each (λ q. IsSmallCommand q.command) s.queue

-- where the types of the names and of the start nest at most 1,024 deep, each state of the run has terms that are small enough for a text
abbrev pub RunsStaySmall : Type 0
RunsStaySmall =
    (setting : Setting) (start : List Literal)
    → IsModestSetting 1024 setting
    → Each (IsModestLiteral 1024) start
    → (n : ℕ) (s : State)
    → state_after setting start n ≡ Some s
    → StateHasSmallTerms s
