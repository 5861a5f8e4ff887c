use Rattle.std.proofs.Common.{sym, ap, ◌∙◌}
use Rattle.sat_laws.specs.Internal.Packing.{packed}
use Rattle.sat_laws.proofs.PackingLaws.{packed-unpacked}
use Rattle.sat_propagate.proofs.packed.Packed.number.Goals as goal

pub returns : goal.returns
returns c = sym (packed-unpacked c.self.inside.code) ∙ ap packed c.self.view_is
