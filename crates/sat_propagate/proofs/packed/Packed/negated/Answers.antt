use Rattle.std.proofs.Common.{ap, ◌∙◌}
use Rattle.sat_base.specs.Literal.{negated}
use Rattle.sat_propagate.proofs.CodeLaws.{flipped}
use Rattle.sat_propagate.proofs.packed.Packed.negated.Goals as goal

pub returns : goal.returns
returns c = flipped c.self.inside.code ∙ ap negated c.self.view_is
