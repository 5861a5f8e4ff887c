use Rattle.thf_parse.proofs.PrintableLaws.{declared-printable}
use Rattle.thf_parse.proofs.law.declared_are_printable.Goals as goal

pub returns : goal.returns
returns c = λ bytes tokens limit tree lexed parsed. declared-printable bytes tokens limit tree lexed parsed
