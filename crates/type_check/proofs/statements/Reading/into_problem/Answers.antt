use Rattle.std.proofs.Common.{ap₂}
use Rattle.type_check.specs.Internal.ReadingView.{the_reading}
use Rattle.type_check.proofs.statements.Reading.into_problem.Goals as goal

pub returns : goal.returns
returns c =
    ap₂ (λ bases consts. record (the_reading c.args.self) { declared = record { bases = bases; consts = consts } }) c.into_signature.ensures.bases c.into_signature.ensures.consts
