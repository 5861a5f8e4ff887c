use Rattle.literal_map.proofs.StayLaws.{atoms_stay, literals_same}
use Rattle.literal_map.proofs.law.literals_stay.Goals as goal

pub returns-clause-atoms : goal.returns-clause-atoms
returns-clause-atoms c = λ old new g atoms h. atoms_stay old new g atoms h

pub returns-clause-literals : goal.returns-clause-literals
returns-clause-literals c = λ old new g atoms further h b l k. literals_same old new g atoms further h b l k
