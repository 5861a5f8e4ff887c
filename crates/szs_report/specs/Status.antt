-- The exit status of an outcome.
use Rattle.std.specs.Prelude.{ℕ}
use Rattle.szs_report.specs.declared.outcome.Outcome.{Outcome}
use Rattle.szs_report.specs.declared.outcome.Outcome.TheVariants.{Theorem, Unsatisfiable, GaveUp, CommandLimit, ConflictLimit, DemoDone, Accepted, Refused, CounterSatisfiable, Satisfiable, NoneSmall, ModelsTooMany, Same, Different, NoEquation, SyntaxAt, TypeAt, IncludeAt, ModeAt, ScheduleAt, Words, TooLong, ReadFault, WriteFault, Memory}

abbrev pub status_of : Outcome → ℕ
status_of Theorem = 0
status_of Unsatisfiable = 0
status_of GaveUp = 1
status_of (CommandLimit n) = 2
status_of (ConflictLimit c) = 3
status_of DemoDone = 0
status_of Accepted = 0
status_of (Refused line why) = 4
status_of (CounterSatisfiable s) = 0
status_of (Satisfiable s) = 0
status_of (NoneSmall k) = 5
status_of (ModelsTooMany s) = 6
status_of Same = 0
status_of Different = 7
status_of NoEquation = 8
status_of (SyntaxAt file at) = 10
status_of (TypeAt file at why) = 11
status_of (IncludeAt file at why) = 12
status_of (ModeAt line why) = 13
status_of Words = 14
status_of (TooLong file) = 15
status_of (ScheduleAt line why) = 17
status_of (ReadFault file) = 20
status_of WriteFault = 21
status_of Memory = 30
