use Rattle.std.proofs.Common.{rules}
use Rattle.stt_core.proofs.TypeLaws.{same_type-true}
use Rattle.type_check.proofs.type_list.TypeList.share.Goals as goal

pub returns : goal.returns
returns c = search (rules, same_type-true)
