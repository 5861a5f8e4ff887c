use Rattle.cli_words.specs.View.{the_request}
use Rattle.request_answers.proofs.OneLine.{asked_in_range}
use Rattle.cli_words.specs.Requests.{asked_by}
use Rattle.satallax_top.proofs.HeadlineLaws.{memory_without_cause}
use Rattle.satallax_top.proofs.top.call.Goals as goal

pub answer-answer-requires-clause-in_range : goal.answer-answer-requires-clause-in_range
answer-answer-requires-clause-in_range g c = asked_in_range c.args.words.now (the_request c.in-Ok.asked) c.in-Ok.ensures.asked

pub returns-in-Err-Memory-clause-cause : goal.returns-in-Err-Memory-clause-cause
returns-in-Err-Memory-clause-cause g c =
    memory_without_cause (asked_by c.args.words.now) (g.F.Files.seen c.args.files.now) (g.F.Files.faults c.args.files.now)
