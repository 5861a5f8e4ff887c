use Rattle.std.proofs.Common.{ap, ◌∙◌}
use Rattle.std.specs.Prelude.{unwrap_or}
use Rattle.search_spec.specs.Partial.{Partial, with_filling}
use Rattle.instantiate.proofs.FillLaws.{placed-first}
use Rattle.instantiate.proofs.partial.Partial.with_head.Goals as goal

pub returns : goal.returns
returns c =
    let p = c.args.self in
    let r = c.in_ok-with_holes.field-0 in
    c.fill.ensures.filled
    ∙ placed-first r p (with_filling r p)
    ∙ ap (λ (x : Partial). unwrap_or (with_filling x p) p) c.in_ok-with_holes.ensures
