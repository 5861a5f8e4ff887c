-- What commands leave as it is.
use Rattle.std.specs.Prelude.{List}
use Rattle.stt_core.specs.Declarations.{Declarations}
use Rattle.sat_log.specs.declared.log.LogEntry.{LogEntry}
use Rattle.prover_state.specs.declared.tables.Basis.{Basis}
use Rattle.prover_state.specs.declared.tables.Tables.{Tables}

pub record Lasting : Type 0 where
  pub declared : Declarations
  pub log : List LogEntry

-- the names that are declared
abbrev pub declarations_of : Basis → Declarations
declarations_of g = record { bases = g.bank.bases; consts = g.bank.consts }

-- the names that are declared, and the log of what was learned
abbrev pub lasting : Tables → Lasting
lasting t = record { declared = declarations_of t.basis; log = t.solver.log }
