use Rattle.mode_file.proofs.AnswerLaws.{one_mode, one_refusal, not_both_answers}
use Rattle.mode_file.proofs.law.one_answer.Goals as goal

pub returns : goal.returns
returns c = record { mode = one_mode; refusal = one_refusal; apart = not_both_answers }
