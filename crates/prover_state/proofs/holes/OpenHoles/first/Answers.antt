use Rattle.std.proofs.Common.{sym, ap, ◌∙◌}
use Rattle.prover_state.specs.Internal.Holes.{leftmost}
use Rattle.prover_state.specs.Internal.Chains.{chain}
use Rattle.prover_state.proofs.ChainLaws.{chain-none, list-placed}
use Rattle.prover_state.proofs.holes.OpenHoles.first.Goals as goal

pub returns-in-0 : goal.returns-in-0
returns-in-0 c = λ holes at.
    let cells = c.self.inside.cells in
    let is = list-placed cells c.self.inside.lists.items c.args.p c.index.result.now c.args.self.now holes c.self.view_is at c.requires c.index.ensures in
    ap leftmost (sym (ap (chain cells) c.in-0.is ∙ chain-none cells) ∙ is)

pub returns-in_default : goal.returns-in_default
returns-in_default c = λ holes at.
    let cells = c.self.inside.cells in
    let is = list-placed cells c.self.inside.lists.items c.args.p c.index.result.now c.args.self.now holes c.self.view_is at c.requires c.index.ensures in
    ap leftmost (sym c.first.ensures.list ∙ is)
