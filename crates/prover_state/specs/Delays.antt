-- How long commands wait.
use Rattle.std.specs.Prelude.{ℕ}
use Rattle.mode_file.specs.declared.Mode.{Mode}
use Rattle.prover_state.specs.declared.command.Command.{Command}
use Rattle.prover_state.specs.declared.command.Command.TheVariants.{Process, Mate, Confront, Inst, Grow, Choose, Describe}

abbrev pub delay_by : Mode → Command → ℕ
delay_by mode (Process l) = mode.process
delay_by mode (Mate l m) = mode.mate
delay_by mode (Confront l m) = mode.confront
delay_by mode (Inst l u) = mode.inst
delay_by mode (Grow p h) = mode.grow
delay_by mode (Choose f) = mode.choose
delay_by mode (Describe f) = mode.choose
