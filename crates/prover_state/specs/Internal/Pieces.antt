-- Pieces of loops, whose commands wait equally long.
use Rattle.std.specs.Prelude.{◌≡◌, ◌==◌, ◌-◌, ◌≤◌, ◌<◌, ℕ, List, length, slice_get, nat_lt, Some, if◌then◌else◌}
use Rattle.mode_file.specs.declared.Mode.{Mode}
use Rattle.search_spec.specs.Defaults.{default_delay}
use Rattle.tableau_calculus.specs.Each.{Each}
use Rattle.search_spec.specs.State.{Command as Meant, brings_default}
use Rattle.prover_state.specs.declared.command.Command.{Command}
use Rattle.prover_state.specs.declared.command.Over.{Over}
use Rattle.prover_state.specs.declared.command.Over.TheVariants.{Terms, Universals, Negatives, Positives, Heads, Parked}
use Rattle.prover_state.specs.declared.piece.Piece.{Piece}
use Rattle.prover_state.specs.declared.tables.Tables.{Tables}
use Rattle.prover_state.specs.Internal.Names.{command_at, IsNumberedCommand}
use Rattle.prover_state.specs.Internal.Pending.{loop_over, between, HasWitnesses, IsSigned}
use Rattle.prover_state.specs.Internal.Standing.{without_witnesses, naming_in, sources}

-- how much longer a command waits than others of its kind
abbrev pub extra_delay : Mode → Meant → ℕ
extra_delay mode c = default_delay mode (brings_default c)

-- the loop of a command that is given by numbers, as far as it goes by now
abbrev pub numbered_loop : Tables → Over → Command → List Meant
numbered_loop t over c = loop_over (without_witnesses t.basis.bank) (sources t) over (command_at (naming_in t) c)

-- The place before which all commands of a loop, which has so many, wait as long as the first one, where defaults wait longer: of the terms
-- any can be a default, of the heads the last one, which is the choice.
abbrev pub even_with_defaults : Over → ℕ → ℕ
even_with_defaults Terms count = 1
even_with_defaults Universals count = count
even_with_defaults Negatives count = count
even_with_defaults Positives count = count
even_with_defaults (Heads n) count = if nat_lt 2 count then count - 1 else 1
even_with_defaults Parked count = count

-- the same, where defaults wait so much longer
abbrev pub even_until : ℕ → Over → ℕ → ℕ
even_until defaults over count = if defaults == 0 then count else even_with_defaults over count

-- the piece begins a loop's part that ends at a place, and each command of this part waits as much longer as the piece says
pub record IsPiece (mode : Mode) (t : Tables) (over : Over) (c : Command) (piece : Piece) (end : ℕ) : Type 0 where
  pub some : piece.from < end
  pub within : end ≤ length (numbered_loop t over c)
  pub numbers : IsNumberedCommand (naming_in t) piece.first
  pub leads : slice_get (numbered_loop t over c) piece.from ≡ Some (command_at (naming_in t) piece.first)
  pub even : Each (λ d. extra_delay mode d ≡ piece.extra) (between piece.from end (numbered_loop t over c))

-- the loop can have these commands
pub record IsLoop (t : Tables) (over : Over) (c : Command) : Type 0 where
  pub witnesses : HasWitnesses (sources t) over
  pub signed : IsSigned over (command_at (naming_in t) c)
