use Rattle.request_answers.proofs.CheckedLaws.{accepted_not_refused, one_refusal}
use Rattle.request_answers.proofs.law.one_check.Goals as goal

pub returns-clause-accepted : goal.returns-clause-accepted
returns-clause-accepted c = accepted_not_refused

pub returns-clause-refused : goal.returns-clause-refused
returns-clause-refused c = one_refusal
