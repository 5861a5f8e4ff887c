use Rattle.std.proofs.Common.{ap}
use Rattle.refute_check.proofs.PlaceLaws.{found_place}
use Rattle.refute_check.proofs.numbering.Numbering.base.Goals as goal

pub returns : goal.returns
returns c =
    let s = c.self.inside in
    found_place s.bases s.signature.now.bases c.args.self.now.bases c.args.name.now c.len.result c.find.result c.find.ensures c.len.ensures c.self.invariant.0 (ap (λ n. n.bases) c.self.view_is)
