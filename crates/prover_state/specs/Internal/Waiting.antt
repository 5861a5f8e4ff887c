-- What commands stand for that wait in little room.
use Rattle.std.specs.Prelude.{ℕ, Bool, Option, Some, None}
use Rattle.sat_base.specs.declared.literal.SatLit.{SatLit}
use Rattle.prover_state.specs.declared.command.Command.{Command}
use Rattle.prover_state.specs.declared.command.Command.TheVariants.{Process, Mate, Confront, Inst, Grow, Choose, Describe}
use Rattle.prover_state.specs.declared.command.Over.{Over}
use Rattle.prover_state.specs.declared.command.Over.TheVariants.{Terms, Universals, Negatives, Positives, Heads, Parked}
use Rattle.prover_state.specs.declared.command.Rest.{Rest}
use Rattle.prover_state.specs.declared.waiting.Kind.{Kind}
use Rattle.prover_state.specs.declared.waiting.Kind.TheVariants.{Process as Processes, Mate as Mates, Confront as Confronts, Inst as Insts, Grow as Grows, Choose as Chooses, Describe as Describes}
use Rattle.prover_state.specs.declared.waiting.Along.{Along}
use Rattle.prover_state.specs.declared.waiting.Along.TheVariants.{Nothing, Terms as AlongTerms, Universals as AlongUniversals, Negatives as AlongNegatives, Positives as AlongPositives, Heads as AlongHeads, Parked as AlongParked}

-- the literal of a variable's number, with a sign
abbrev pub literal_by : ℕ → Bool → SatLit
literal_by n positive = record { var = record { 0 = n }; positive = positive }

-- the command of a kind with two literals, or with their numbers
abbrev pub command_by : Kind → SatLit → SatLit → Command
command_by Processes l m = Process l
command_by Mates l m = Mate l m
command_by Confronts l m = Confront l m
command_by Insts l m = Inst l m.var.0
command_by Grows l m = Grow l.var.0 m.var.0
command_by Chooses l m = Choose l.var.0
command_by Describes l m = Describe l.var.0

-- over what a loop goes, with so many witnesses, where there is one
abbrev pub over_by : Along → ℕ → Option Over
over_by Nothing n = None
over_by AlongTerms n = Some Terms
over_by AlongUniversals n = Some Universals
over_by AlongNegatives n = Some Negatives
over_by AlongPositives n = Some Positives
over_by AlongHeads n = Some (Heads n)
over_by AlongParked n = Some Parked

-- what is left of a loop between two places, where there is one
abbrev pub rest_by : Option Over → ℕ → ℕ → Option Rest
rest_by None next end = None
rest_by (Some over) next end = Some (record { over = over; next = next; end = end })
