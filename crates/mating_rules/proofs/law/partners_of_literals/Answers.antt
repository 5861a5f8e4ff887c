use Rattle.mating_rules.proofs.StayLaws.{literals-partners}
use Rattle.mating_rules.proofs.law.partners_of_literals.Goals as goal

pub returns : goal.returns
returns c = λ terms atoms l noted. literals-partners terms atoms l noted
