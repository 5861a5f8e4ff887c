use Rattle.std.proofs.Common.{ap, ◌∙◌}
use Rattle.stt_core.specs.View.{the_type}
use Rattle.prover_state.specs.Internal.Holes.{after_head}
use Rattle.prover_state.specs.Internal.Chains.{chain}
use Rattle.prover_state.proofs.ChainLaws.{list-placed, lists-last}
use Rattle.prover_state.proofs.holes.OpenHoles.push_grown.Goals as goal

pub returns : goal.returns
returns c = λ holes at.
    let a = the_type c.args.ty.now in
    let old = c.self.inside.cells in
    let ks = c.self.inside.lists.items in
    let is = list-placed old ks c.args.p c.index.result.now c.args.self.now holes c.self.view_is at c.requires c.index.ensures in
    lists-last old c.add_grown.new.self ks c.push.new.self.items c.in_ok-number.number c.args.self.now (after_head a holes) c.add_grown.ensures.extends c.self.invariant c.self.view_is c.in_ok-push.ensures.items
    (ap (chain c.add_grown.new.self) c.in_ok-number.ensures ∙ c.in_ok-list.ensures.list ∙ ap (after_head a) is)
