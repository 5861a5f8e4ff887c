use Rattle.request_answers.proofs.RunEnds.{solved-same, turns-same}
use Rattle.satallax_top.proofs.OneAnswer.{answer-same, outcome-same}
use Rattle.satallax_top.proofs.law.one_answer.Goals as goal

pub returns-clause-run : goal.returns-clause-run
returns-clause-run c = λ nodes m p a b w v h k. solved-same nodes m p a b w v h k

pub returns-clause-schedule : goal.returns-clause-schedule
returns-clause-schedule c = turns-same

pub returns-clause-answer : goal.returns-clause-answer
returns-clause-answer c = answer-same

pub returns-clause-outcome : goal.returns-clause-outcome
returns-clause-outcome c = outcome-same
