use Rattle.std.proofs.Common.{ap, refl}
use Rattle.stt_core.specs.Lambda.{name, witness, choice, description}
use Rattle.stt_core.specs.View.{the_head, the_type}
use Rattle.tableau_rules.proofs.spine.is_compared.Goals as goal

pub returns-in-Name : goal.returns-in-Name
returns-in-Name c = (λ _. (name c.in-Name.field-0, tt, ap the_head c.in-Name.is), λ _. refl)

pub returns-in-Wit : goal.returns-in-Wit
returns-in-Wit c = (λ _. (witness c.in-Wit.field-0, tt, ap the_head c.in-Wit.is), λ _. refl)

pub returns-in-Choice : goal.returns-in-Choice
returns-in-Choice c = (λ _. (choice (the_type c.in-Choice.field-0), tt, ap the_head c.in-Choice.is), λ _. refl)

pub returns-in-Desc : goal.returns-in-Desc
returns-in-Desc c = (λ _. (description (the_type c.in-Desc.field-0), tt, ap the_head c.in-Desc.is), λ _. refl)
