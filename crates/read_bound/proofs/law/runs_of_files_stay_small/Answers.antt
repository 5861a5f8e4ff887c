use Rattle.read_bound.proofs.FileLaws.{files_stay_small}
use Rattle.read_bound.proofs.law.runs_of_files_stay_small.Goals as goal

pub returns : goal.returns
returns c = files_stay_small
