use Rattle.thf_syntax.proofs.Spelled.{is_text-printable}
use Rattle.thf_syntax.proofs.law.read_trees_are_printable.Goals as goal

pub returns : goal.returns
returns c = is_text-printable
