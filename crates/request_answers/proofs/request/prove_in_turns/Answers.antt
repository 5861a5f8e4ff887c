use Rattle.std.proofs.Common.{Err, ap, ◌∙◌}
use Rattle.request_answers.proofs.request.prove_in_turns.Goals as goal

pub returns-in-Err-clause-fault : goal.returns-in-Err-clause-fault
returns-in-Err-clause-fault g c = λ k names e. c.read_problem.ensures.fault k names (c.in-Err.is ∙ ap Err e)
