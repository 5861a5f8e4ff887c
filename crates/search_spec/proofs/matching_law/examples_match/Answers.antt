use Rattle.std.specs.Prelude.{refl}
use Rattle.search_spec.proofs.matching_law.examples_match.Goals as goal

pub returns : goal.returns
returns c = ((refl, refl), refl, (refl, refl, refl, refl), (refl, refl), (refl, refl), refl)
