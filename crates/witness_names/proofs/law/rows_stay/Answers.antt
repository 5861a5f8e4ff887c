use Rattle.witness_names.proofs.StayLaws.{rows_same, rows_grown}
use Rattle.witness_names.proofs.law.rows_stay.Goals as goal

pub returns : goal.returns
returns c = λ old new g ids r. (rows_grown old new g ids r, rows_same old new g ids r)
