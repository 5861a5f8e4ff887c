-- States of the search whose terms are no deeper than those of a text may be.
use Rattle.std.specs.Prelude.{◌≡◌, ◌≤◌, ℕ, List, Some}
use Rattle.stt_core.specs.Depth.{depth}
use Rattle.tableau_calculus.specs.Literals.{Literal}
use Rattle.tableau_calculus.specs.Each.{Each}
use Rattle.search_spec.specs.State.{State, Setting, Command, process, mate, confront, inst, choose, describe, grow}
use Rattle.search_spec.specs.After.{state_after}

abbrev pub IsFlat : Literal → Type 0
IsFlat l = depth l.atom ≤ 4096

-- a command's literals and predicates; the term of an instance is looked at when the command is carried out
abbrev pub IsFlatCommand : Command → Type 0
IsFlatCommand (process l) = IsFlat l
IsFlatCommand (mate l m) = IsFlat l × IsFlat m
IsFlatCommand (confront l m) = IsFlat l × IsFlat m
IsFlatCommand (inst l u) = IsFlat l
IsFlatCommand (choose a f) = depth f ≤ 4096
IsFlatCommand (describe a f) = depth f ≤ 4096
IsFlatCommand (grow p h) = Unit {0}

pub record IsFlatState (s : State) : Type 0 where
  pub clauses : Each (Each IsFlat) s.clauses
  pub noted : Each IsFlat s.noted
  pub rows : Each (λ r. depth r.predicate ≤ 4096) s.rows
  pub queue : Each (λ q. IsFlatCommand q.command) s.queue

-- every literal and every witness's predicate of every state of a run is no deeper than a text's terms may be
abbrev pub RunsStayFlat : Type 0
RunsStayFlat = (setting : Setting) (start : List Literal) (n : ℕ) (s : State) → state_after setting start n ≡ Some s → IsFlatState s
