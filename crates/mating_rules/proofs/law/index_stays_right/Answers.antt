use Rattle.mating_rules.proofs.StayLaws.{right_stays}
use Rattle.mating_rules.proofs.law.index_stays_right.Goals as goal

pub returns : goal.returns
returns c = λ old new g atoms further h b i r. right_stays old new g atoms further h b i r
