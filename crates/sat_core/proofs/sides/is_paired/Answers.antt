use Rattle.std.proofs.Common.{sym, ◌∙◌}
use Rattle.sat_core.proofs.ReasonLaws.{none_gives}
use Rattle.sat_core.proofs.sides.is_paired.Goals as goal

pub returns-then-contains-clause-no : goal.returns-then-contains-clause-no
returns-then-contains-clause-no c = λ none paired. none_gives c.pair_of.result _ (sym c.is_some.ensures ∙ none) c.pair_of.ensures.no paired.at paired.reason paired.pair
