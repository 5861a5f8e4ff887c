-- The state of the search (Brown, Reducing higher-order theorem proving to a sequence of SAT problems, 2013).
use Rattle.std.specs.Prelude.{ℕ, ◌+◌, ◌++◌, ◌==◌, Bool, false, length, List, if◌then◌else◌}
use Rattle.stt_core.specs.SimpleType.{SimpleType}
use Rattle.stt_core.specs.Lambda.{Lambda}
use Rattle.stt_core.specs.Typing.{Scope}
use Rattle.tableau_calculus.specs.Literals.{Literal}
use Rattle.tableau_calculus.specs.Witnesses.{Row, with_rows}
use Rattle.search_spec.specs.Unsatisfiable.{Clause}
use Rattle.mode_file.specs.declared.Mode.{Mode}
use Rattle.search_spec.specs.Partial.{Partial}
use Rattle.search_spec.specs.Heads.{HeadOffers}
use Rattle.search_spec.specs.Defaults.{is_default_term, is_value_choice, default_delay}
use Rattle.search_spec.specs.Queue.{new_entries}
use Rattle.command_queue.specs.declared.entry.Entry.{Entry}

-- what a run is given: what is declared, and how long commands wait
pub record Setting : Type 0 where
  pub scope : Scope
  pub mode : Mode

-- a term of a type, to instantiate quantifiers over the type with
pub record Typed : Type 0 where
  pub type : SimpleType
  pub term : Lambda

-- a partial term of a type
pub record Sketch : Type 0 where
  pub type : SimpleType
  pub partial : Partial

-- A command: a literal is processed, opposite literals are mated, an equation is confronted with the negation of one, a universal literal
-- is instantiated with a term, a predicate on a type is chosen by, one is described, a partial term's first hole is filled with a head.
pub data Command : Type 0 where
  process : Literal → Command
  mate : Literal → Literal → Command
  confront : Literal → Literal → Command
  inst : Literal → Lambda → Command
  choose : SimpleType → Lambda → Command
  describe : SimpleType → Lambda → Command
  grow : Sketch → Lambda → Command

-- The clauses, the literals that were seen and those that were processed, the terms for instances, the predicates that were chosen by
-- and those that were described, the witness table, the partial terms, the commands that wait, how many commands were pushed and done so
-- far, the moment from which delays count, and what is offered to holes, which never changes.
pub record State : Type 0 where
  pub clauses : List Clause
  pub seen : List Literal
  pub noted : List Literal
  pub terms : List Typed
  pub chosen : List Lambda
  pub described : List Lambda
  pub rows : List Row
  pub parked : List Sketch
  pub queue : List (Entry Command)
  pub pushes : ℕ
  pub done : ℕ
  pub moment : ℕ
  pub offers : HeadOffers

-- How long the commands of a kind wait. A choice and a description wait equally long.
abbrev pub kind_delay : Mode → Command → ℕ
kind_delay mode (process l) = mode.process
kind_delay mode (mate l m) = mode.mate
kind_delay mode (confront l m) = mode.confront
kind_delay mode (inst l u) = mode.inst
kind_delay mode (choose a f) = mode.choose
kind_delay mode (describe a f) = mode.choose
kind_delay mode (grow p h) = mode.grow

-- whether a command brings in a default: it instantiates with a default term, or grows by a choice
abbrev pub brings_default : Command → Bool
brings_default (inst l u) = is_default_term u
brings_default (grow p h) = is_value_choice h
brings_default c = false

-- how long a command waits
abbrev pub delay : Mode → Command → ℕ
delay mode c = kind_delay mode c + default_delay mode (brings_default c)

-- The moment at which a command is carried out: by clock 0 it is the command's number, counted from 1; by any other clock it is the moment
-- at which the command was due.
abbrev pub moment_by : ℕ → ℕ → ℕ → ℕ
moment_by clock count due = if clock == 0 then count else due

-- the moment at which a command is due that is pushed at a moment
abbrev pub due : Mode → ℕ → Command → ℕ
due mode now c = now + delay mode c

-- the state with commands pushed
abbrev pub with_commands : Mode → List Command → State → State
with_commands mode cs s = record s { queue = s.queue ++ new_entries (due mode s.moment) s.pushes cs; pushes = s.pushes + length cs }

-- what is declared, with the witnesses so far
abbrev pub scope_in : Setting → State → Scope
scope_in setting s = with_rows setting.scope s.rows
