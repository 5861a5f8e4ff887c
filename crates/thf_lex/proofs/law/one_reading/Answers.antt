use Rattle.thf_grammar.proofs.Readings.{reads_same}
use Rattle.thf_lex.proofs.law.one_reading.Goals as goal

pub returns : goal.returns
returns c = λ bytes one other h g. reads_same 0 bytes one other h g
