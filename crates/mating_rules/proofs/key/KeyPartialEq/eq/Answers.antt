use Rattle.std.proofs.Common.{ap₂, ◌∙◌}
use Rattle.stt_core.specs.View.{the_head}
use Rattle.stt_core.specs.SameTerm.{same_term}
use Rattle.mating_rules.proofs.KeyLaws.{told}
use Rattle.mating_rules.proofs.key.KeyPartialEq.eq.Goals as goal

pub returns : goal.returns
returns c = told c.same.result (the_head c.self.inside.head) (the_head c.other.inside.head) c.same.ensures ∙ ap₂ same_term c.self.view_is c.other.view_is
