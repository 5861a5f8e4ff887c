use Rattle.refute_check.proofs.AcceptanceLaws.{accepted_refuted}
use Rattle.refute_check.proofs.law.accepted_texts_refute.Goals as goal

pub returns : goal.returns
returns c = λ t accepted m good met. accepted_refuted c.args.problem.now c.requires m good met t accepted
