use Rattle.term_bank.proofs.GrowLaws.{grown_term}
use Rattle.term_bank.proofs.law.ids_keep_their_terms.Goals as goal

pub returns : goal.returns
returns c = λ old new g id t h. grown_term old new id t g h
