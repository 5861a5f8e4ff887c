use Rattle.stt_core.proofs.OccurrenceValues.{value_same}
use Rattle.stt_core.proofs.law.values_depend_on_occurrences.Goals as goal

pub returns : goal.returns
returns c = λ scope ctx m n env other t h. value_same m n scope ctx env other t h
