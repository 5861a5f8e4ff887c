-- What contracts see of a search.
use Rattle.command_queue.specs.Queue.{Queue}
use Rattle.search_spec.specs.State.{State, Setting}
use Rattle.prover_state.specs.declared.command.Planned.{Planned}
use Rattle.prover_state.specs.declared.command.Delays.{Delays}
use Rattle.prover_state.specs.declared.tables.Tables.{Tables}
use Rattle.prover_state.specs.Internal.Standing.{setting_by, the_state}

-- the tables, and the commands that wait
pub record Progress : Type 0 where
  pub tables : Tables
  pub plan : Queue Planned Delays

-- what is declared, and the mode
abbrev pub setting_of : Progress → Setting
setting_of p = setting_by p.tables p.plan

abbrev pub state_of : Progress → State
state_of p = the_state p.tables p.plan
