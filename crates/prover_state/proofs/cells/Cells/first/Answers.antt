use Rattle.std.proofs.Common.{◌≡◌, ◌<◌, ◌-◌, ◌∷◌, suc, List, length, ap, subst, ◌∙◌, arith}
use Rattle.std.proofs.lemmas.List.{length-reverse}
use Rattle.prover_state.specs.Internal.Chains.{Cell, chain}
use Rattle.prover_state.proofs.ChainLaws.{chain-placed}
use Rattle.prover_state.proofs.cells.Cells.first.Goals as goal

pub returns-clause-list : goal.returns-clause-list
returns-clause-list c =
    let items = c.self.inside.items.items in
    let x = c.index.result.now in
    let n = c.args.k - 1 in
    let size = ap length c.self.view_is in
    let within : n < length items = omega (arith, c.requires.there, c.requires.within, size, length-reverse items) in
    let at = chain-placed items n x c.self.invariant within c.index.ensures in
    ap (chain c.args.self.now) (let k : c.args.k ≡ suc n = omega (arith, c.requires.there) in k)
    ∙ subst (λ (cells : List Cell). chain cells (suc n) ≡ x.0 ∷ chain cells x.1) c.self.view_is at.0

pub returns-clause-linked : goal.returns-clause-linked
returns-clause-linked c =
    let items = c.self.inside.items.items in
    let n = c.args.k - 1 in
    let size = ap length c.self.view_is in
    let within : n < length items = omega (arith, c.requires.there, c.requires.within, size, length-reverse items) in
    let at = chain-placed items n c.index.result.now c.self.invariant within c.index.ensures in
    omega (arith, at.1, c.requires.there, c.requires.within)
