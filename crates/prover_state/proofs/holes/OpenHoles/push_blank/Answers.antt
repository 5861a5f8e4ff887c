use Rattle.std.proofs.Common.{[], ◌∷◌, List, reverse, ap, ap₂, ◌∙◌}
use Rattle.stt_core.specs.SimpleType.{SimpleType}
use Rattle.stt_core.specs.View.{the_type}
use Rattle.search_spec.specs.Partial.{Hole}
use Rattle.prover_state.specs.Internal.Holes.{blank_hole}
use Rattle.prover_state.specs.Internal.Chains.{chain}
use Rattle.prover_state.proofs.ChainLaws.{chain-none, lists-last}
use Rattle.prover_state.proofs.holes.OpenHoles.push_blank.Goals as goal

pub returns : goal.returns
returns c =
    let a = the_type c.args.ty.now in
    let old = c.self.inside.cells in
    lists-last old c.add_blank.new.self c.self.inside.lists.items c.push.new.self.items c.in_ok-number.number c.args.self.now (blank_hole [] a ∷ []) c.add_blank.ensures.extends c.self.invariant c.self.view_is c.in_ok-push.ensures.items
    (ap (chain c.add_blank.new.self) c.in_ok-number.ensures
    ∙ c.in_ok-list.ensures.list
    ∙ ap₂ (λ (types : List SimpleType) (hs : List Hole). blank_hole (reverse types) a ∷ hs) c.in_ok-context.ensures (chain-none old))
