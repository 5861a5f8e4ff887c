use Rattle.std.proofs.Common.{ap₂, ◌∙◌}
use Rattle.sat_base.specs.Literal.{same_literal}
use Rattle.sat_propagate.proofs.CodeLaws.{same_code}
use Rattle.sat_propagate.proofs.packed.Packed.is.Goals as goal

pub returns : goal.returns
returns c = same_code c.self.inside.code c.other.inside.code ∙ ap₂ same_literal c.self.view_is c.other.view_is
