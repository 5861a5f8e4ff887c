use Rattle.std.proofs.Common.{map, ap, sym, ◌∙◌}
use Rattle.std.proofs.lemmas.List.{length-map}
use Rattle.refute_check.proofs.PlaceLaws.{found_place}
use Rattle.refute_check.proofs.numbering.Numbering.constant.Goals as goal

pub returns : goal.returns
returns c =
    let s = c.self.inside in
    found_place s.consts (map (λ d. d.name) s.signature.now.consts) c.args.self.now.constants c.args.name.now c.len.result c.find.result c.find.ensures (c.len.ensures ∙ sym (length-map s.signature.now.consts (λ d. d.name))) c.self.invariant.1 (ap (λ n. n.constants) c.self.view_is)
