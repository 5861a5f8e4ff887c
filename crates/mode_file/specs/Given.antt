-- The numbers that a file gives to keys.
use Rattle.std.specs.Prelude.{ℕ, ◌≤◌, Option, Some, None, unwrap_or}
use Rattle.mode_file.specs.declared.Mode.{Mode}
use Rattle.mode_file.specs.declared.given.Given.{Given}
use Rattle.mode_file.specs.declared.keys.Key.{Key}
use Rattle.mode_file.specs.declared.keys.Key.TheVariants.{Process, Mate, Confront, Inst, Choose, Grow, Clock, Terms, Defaults, Names, Commands, Conflicts}
use Rattle.mode_file.specs.Keys.{standard_number, greatest}

abbrev pub nothing_given : Given
nothing_given = record {
  process = None;
  mate = None;
  confront = None;
  inst = None;
  choose = None;
  grow = None;
  clock = None;
  terms = None;
  defaults = None;
  names = None;
  commands = None;
  conflicts = None;
}

abbrev pub number_given : Given → Key → Option ℕ
number_given given Process = given.process
number_given given Mate = given.mate
number_given given Confront = given.confront
number_given given Inst = given.inst
number_given given Choose = given.choose
number_given given Grow = given.grow
number_given given Clock = given.clock
number_given given Terms = given.terms
number_given given Defaults = given.defaults
number_given given Names = given.names
number_given given Commands = given.commands
number_given given Conflicts = given.conflicts

-- the same numbers, with one more
abbrev pub with_number : Given → Key → ℕ → Given
with_number given Process n = record given { process = Some n }
with_number given Mate n = record given { mate = Some n }
with_number given Confront n = record given { confront = Some n }
with_number given Inst n = record given { inst = Some n }
with_number given Choose n = record given { choose = Some n }
with_number given Grow n = record given { grow = Some n }
with_number given Clock n = record given { clock = Some n }
with_number given Terms n = record given { terms = Some n }
with_number given Defaults n = record given { defaults = Some n }
with_number given Names n = record given { names = Some n }
with_number given Commands n = record given { commands = Some n }
with_number given Conflicts n = record given { conflicts = Some n }

-- the mode of these numbers: the other keys have their standard ones
abbrev pub mode_of : Given → Mode
mode_of given = record {
  process = unwrap_or given.process (standard_number Process);
  mate = unwrap_or given.mate (standard_number Mate);
  confront = unwrap_or given.confront (standard_number Confront);
  inst = unwrap_or given.inst (standard_number Inst);
  choose = unwrap_or given.choose (standard_number Choose);
  grow = unwrap_or given.grow (standard_number Grow);
  clock = unwrap_or given.clock (standard_number Clock);
  terms = unwrap_or given.terms (standard_number Terms);
  defaults = unwrap_or given.defaults (standard_number Defaults);
  names = unwrap_or given.names (standard_number Names);
  commands = unwrap_or given.commands (standard_number Commands);
  conflicts = unwrap_or given.conflicts (standard_number Conflicts);
}

-- no number of the mode is above the greatest that its key takes
pub record IsInRange (mode : Mode) : Type 0 where
  pub process : mode.process ≤ greatest Process
  pub mate : mode.mate ≤ greatest Mate
  pub confront : mode.confront ≤ greatest Confront
  pub inst : mode.inst ≤ greatest Inst
  pub choose : mode.choose ≤ greatest Choose
  pub grow : mode.grow ≤ greatest Grow
  pub clock : mode.clock ≤ greatest Clock
  pub terms : mode.terms ≤ greatest Terms
  pub defaults : mode.defaults ≤ greatest Defaults
  pub names : mode.names ≤ greatest Names
  pub commands : mode.commands ≤ greatest Commands
  pub conflicts : mode.conflicts ≤ greatest Conflicts
