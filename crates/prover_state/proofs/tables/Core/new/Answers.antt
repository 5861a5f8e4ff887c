use Rattle.std.proofs.Common.{◌≡◌, [], length, map, subst}
use Rattle.stt_core.specs.Typing.{Scope}
use Rattle.stt_core.specs.TypedName.{TypedName}
use Rattle.head_offers.specs.Offering.{the_offers}
use Rattle.prover_state.specs.Internal.Offering.{ListsOffers}
use Rattle.prover_state.specs.Internal.Standing.{without_witnesses}
use Rattle.prover_state.proofs.EmptyLaws.{right-empty}
use Rattle.prover_state.proofs.tables.Core.new.Goals as goal

pub returns-in-Ok-clause-right : goal.returns-in-Ok-clause-right
returns-in-Ok-clause-right g c =
    let offered = c.in-Ok.offered in
    let sig = c.sig.result.now in
    let given : Scope = record { bases = length sig.bases; names = map (λ (x : TypedName). x.type) sig.consts; witnesses = [] } in
    let same : given ≡ without_witnesses c.args.basis.bank = λ i. record { bases = length (c.sig.ensures.bases i); names = map (λ (x : TypedName). x.type) (c.sig.ensures.consts i); witnesses = [] } in
    right-empty c.args.basis c.args.offers offered c.empty_tables.result c.empty_tables.ensures c.requires.unwitnessed c.new.result c.new.ensures.empty c.new.ensures.pushes c.requires.basis
    (subst (ListsOffers (the_offers c.args.offers) offered.names offered.bases.items) same c.in-Ok.ensures)
