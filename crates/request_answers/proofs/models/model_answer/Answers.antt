use Rattle.finite_models.specs.Symbols.{model_symbols}
use Rattle.finite_models.proofs.CandidateLaws.{length-candidate}
use Rattle.request_answers.proofs.models.model_answer.Goals as goal

pub lines_of-requires-clause-whole : goal.lines_of-requires-clause-whole
lines_of-requires-clause-whole c =
    length-candidate c.args.size (model_symbols c.args.problem.now) c.args.values.now c.requires.found.small.4.candidate
