-- The commands that are left of a loop of pushes.
use Rattle.std.specs.Prelude.{◌≡◌, ◌&&◌, Bool, true, false, not, ℕ, suc, ◌+◌, ◌-◌, ◌≤◌, ◌<◌, ◌⊎◌, List, [], ◌∷◌, map, filter, take, drop, length, nat_lt, Option, Some, None, if◌then◌else◌}
use Rattle.stt_core.specs.SimpleType.{SimpleType, base, formula}
use Rattle.stt_core.specs.Lambda.{Lambda, constant, app, all, equality}
use Rattle.stt_core.specs.Typing.{Scope}
use Rattle.tableau_calculus.specs.Witnesses.{with_rows}
use Rattle.search_spec.specs.Partial.{Hole, first_hole}
use Rattle.search_spec.specs.Heads.{heads_for}
use Rattle.search_spec.specs.Terms.{terms_of, universals}
use Rattle.search_spec.specs.Partners.{matings, confrontations}
use Rattle.search_spec.specs.Spine.{is_spine}
use Rattle.search_spec.specs.State.{State, Command as Meant, mate, confront, inst, grow}
use Rattle.search_spec.specs.Witness.{has_hole_of}
use Rattle.search_spec.specs.Internal.Loops.{Loop}
use Rattle.tableau_calculus.specs.Each.{Each}
use Rattle.command_queue.specs.declared.entry.Entry.{Entry}
use Rattle.prover_state.specs.declared.command.Planned.{Planned}
use Rattle.prover_state.specs.declared.command.Rest.{Rest}
use Rattle.prover_state.specs.declared.command.Over.{Over}
use Rattle.prover_state.specs.declared.command.Over.TheVariants.{Terms, Universals, Negatives, Positives, Heads, Parked}
use Rattle.prover_state.specs.Internal.Names.{Naming, command_at, IsNumberedCommand}

-- the type over which a quantified formula ranges
abbrev pub range_of : Lambda → SimpleType
range_of (app (constant (all a)) f) = a
range_of t = formula

-- the type on which an equation is one
abbrev pub equation_type : Lambda → SimpleType
equation_type (app (app (constant (equality a)) s) t) = a
equation_type t = formula

abbrev pub base_of : Option Hole → ℕ
base_of (Some h) = h.base
base_of None = 0

-- the loop over the terms of a type, for the literal of a command
abbrev pub over_terms : State → Meant → List Meant
over_terms s (inst l u) = map (inst l) (terms_of (range_of l.atom) s)
over_terms s c = []

-- the loop over the universal literals of a type, for the term of a command
abbrev pub over_universals : State → Meant → List Meant
over_universals s (inst l u) = map (λ k. inst k u) (universals (range_of l.atom) s)
over_universals s c = []

-- the loop over the partners of the positive literal of a command
abbrev pub over_negatives : State → Meant → List Meant
over_negatives s (mate l m) = matings l s.noted
over_negatives s (confront l m) = confrontations (equation_type l.atom) l s.noted
over_negatives s c = []

-- the loop over the partners of the negative literal of a command
abbrev pub over_positives : State → Meant → List Meant
over_positives s (mate l m) = matings m s.noted
over_positives s (confront l m) = confrontations (equation_type m.atom) m s.noted
over_positives s c = []

-- the loop over the heads for the partial term of a command, with the first witnesses
abbrev pub over_heads : Scope → State → ℕ → Meant → List Meant
over_heads scope s n (grow p h) = map (grow p) (heads_for s.offers (with_rows scope (take n s.rows)) (first_hole [] p.partial))
over_heads scope s n c = []

-- the loop over the partial terms that take the head of a command
abbrev pub over_parked : State → Meant → List Meant
over_parked s (grow p h) = map (λ q. grow q h) (filter (has_hole_of (base_of (first_hole [] p.partial))) s.parked)
over_parked s c = []

-- the whole loop of a command, as far as it goes by now
abbrev pub loop_over : Scope → State → Over → Meant → List Meant
loop_over scope s Terms c = over_terms s c
loop_over scope s Universals c = over_universals s c
loop_over scope s Negatives c = over_negatives s c
loop_over scope s Positives c = over_positives s c
loop_over scope s (Heads n) c = over_heads scope s n c
loop_over scope s Parked c = over_parked s c

-- the part of a list between two places
abbrev pub between : {X : Type 0} → ℕ → ℕ → List X → List X
between next end xs = take (end - next) (drop next xs)

-- the commands that come after the first one, which is given
abbrev pub later_of : Scope → State → Meant → Option Rest → List Meant
later_of scope s c None = []
later_of scope s c (Some r) = between r.next r.end (loop_over scope s r.over c)

-- the witnesses with which heads are counted are there
abbrev pub HasWitnesses : State → Over → Type 0
HasWitnesses s Terms = Unit {0}
HasWitnesses s Universals = Unit {0}
HasWitnesses s Negatives = Unit {0}
HasWitnesses s Positives = Unit {0}
HasWitnesses s (Heads n) = n ≤ length s.rows
HasWitnesses s Parked = Unit {0}

-- whether the formula is an equation on a base type other than that of formulas
abbrev pub is_base_equation : Lambda → Bool
is_base_equation (app (app (constant (equality (base (suc n)))) s) t) = true
is_base_equation t = false

-- the literal whose partners a loop goes over has the sign that the loop says, and can have partners for such commands
abbrev pub has_positive : Meant → Bool
has_positive (mate l m) = l.positive && is_spine l.atom
has_positive (confront l m) = l.positive && is_base_equation l.atom
has_positive c = true

abbrev pub has_negative : Meant → Bool
has_negative (mate l m) = not m.positive && is_spine m.atom
has_negative (confront l m) = not m.positive && is_base_equation m.atom
has_negative c = true

abbrev pub IsSigned : Over → Meant → Type 0
IsSigned Negatives c = has_positive c ≡ true
IsSigned Positives c = has_negative c ≡ true
IsSigned Terms c = Unit {0}
IsSigned Universals c = Unit {0}
IsSigned (Heads n) c = Unit {0}
IsSigned Parked c = Unit {0}

-- the later commands are there
pub record IsWithinScope (scope : Scope) (s : State) (c : Meant) (r : Rest) : Type 0 where
  pub ascends : r.next ≤ r.end
  pub within : r.end ≤ length (loop_over scope s r.over c)
  pub witnesses : HasWitnesses s r.over
  pub signed : IsSigned r.over c

abbrev pub AreThere : Scope → State → Meant → Option Rest → Type 0
AreThere scope s c None = Unit {0}
AreThere scope s c (Some r) = IsWithinScope scope s c r

-- what is left of a loop between two places, where anything is
abbrev pub rest_between : Over → ℕ → ℕ → Option Rest
rest_between over next end = if nat_lt next end then Some (record { over = over; next = next; end = end }) else None

-- the list begins with the element
abbrev pub BeginsWith : {X : Type 0} → X → List X → Type 0
BeginsWith {X} x xs = (more : List X) × (xs ≡ x ∷ more)

-- the loop of an entry of the agenda
abbrev pub loop_at : Scope → Naming → State → Entry Planned → Loop Meant
loop_at scope names s e = record {
  due = e.due;
  number = e.number;
  first = command_at names e.command.first;
  later = later_of scope s (command_at names e.command.first) e.command.rest;
}

-- an entry's numbers are numbers, and its later commands are there
pub record IsEntry (scope : Scope) (names : Naming) (s : State) (p : Planned) : Type 0 where
  pub numbers : IsNumberedCommand names p.first
  pub later : AreThere scope s (command_at names p.first) p.rest

-- how many commands come after the first one
abbrev pub span_of : Option Rest → ℕ
span_of None = 0
span_of (Some r) = r.end - r.next

abbrev pub span : Planned → ℕ
span p = span_of p.rest

-- the numbers of the commands of an entry are below a number
abbrev pub EndsBelow : ℕ → Entry Planned → Type 0
EndsBelow n e = e.number + span e.command < n

-- all commands of the one have smaller numbers than those of the other
abbrev pub IsApart : Entry Planned → Entry Planned → Type 0
IsApart e x = EndsBelow e.number x ⊎ EndsBelow x.number e

-- the entries' commands have their numbers one after the other, and each was taken
abbrev pub AreSpaced : List (Entry Planned) → ℕ → Type 0
AreSpaced [] n = Unit {0}
AreSpaced (e ∷ es) n = EndsBelow n e × Each (λ x. EndsBelow x.number e) es × AreSpaced es n
