use Rattle.std.proofs.Common.{rules, ◌≡◌, slice_get, map, ap}
use Rattle.std.proofs.lemmas.Option.{slice_get-map}
use Rattle.type_check.proofs.declared.Declared.const_at.Goals as goal

pub returns : goal.returns
returns c =
    let s = c.self.inside in
    let k = c.args.k in
    let same : slice_get s.types k ≡ slice_get (map (λ d. d.type) s.signature.consts) k = ap (λ l. slice_get l k) c.self.invariant.1 in
    let declared = slice_get-map (λ d. d.type) s.signature.consts k in
    search (rules, same, declared, c.get.ensures, c.map.ensures.cases)
