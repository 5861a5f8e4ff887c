-- What the code has read so far.
use Rattle.std.specs.Prelude.{option_map}
use Rattle.stt_core.specs.View.{the_term}
use Rattle.stt_core.specs.PlainProblem.{PlainProblem}
use Rattle.type_check.specs.declared.statements.Reading.{Reading}

abbrev pub the_reading : Reading → PlainProblem
the_reading r = record { declared = r.declared; assumed = r.assumed; marked = r.marked; conjecture = option_map the_term r.conjecture }
