use Rattle.thf_parse.proofs.PrintableLaws.{included-printable}
use Rattle.thf_parse.proofs.law.included_are_printable.Goals as goal

pub returns : goal.returns
returns c = λ bytes tokens limit tree lexed parsed. included-printable bytes tokens limit tree lexed parsed
