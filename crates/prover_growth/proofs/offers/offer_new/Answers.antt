use Rattle.std.proofs.Common.{[], ◌∷◌, refl, sym, ap, ◌∙◌}
use Rattle.stt_core.specs.SimpleType.{SimpleType}
use Rattle.stt_core.specs.Lambda.{witness, constant}
use Rattle.normal_forms.specs.Normal.{eta}
use Rattle.search_spec.specs.Offers.{takes_witness}
use Rattle.search_spec.specs.Terms.{with_terms}
use Rattle.prover_state.specs.Internal.Standing.{the_state}
use Rattle.prover_growth.proofs.OffersLaws.{new-one, new-none}
use Rattle.prover_growth.proofs.OpeningLaws.{same-grows}
use Rattle.prover_growth.proofs.offers.offer_new.Goals as goal

pub offer_witness-requires-clause-row : goal.offer_witness-requires-clause-row
offer_witness-requires-clause-row g c =
    let a = c.requires.denies.0 in
    let f = c.requires.denies.1.0 in
    (record { type = a; predicate = f }, (c.requires.denies.1.1.1, sym (c.in_ok-ty.ensures a f c.requires.denies.1.1.0)))

pub returns-then-takes_witness-clause-state : goal.returns-then-takes_witness-clause-state
returns-then-takes_witness-clause-state g c = λ a f denies.
    let core = c.args.core.now in
    let mode = core.plan.rule.mode in
    let s = the_state core.tables core.plan in
    let w = constant (witness c.args.w) in
    let is = c.in_ok-ty.ensures a f denies in
    c.in_ok-offer_witness.ensures.state
    ∙ ap (λ (b : SimpleType). with_terms mode b (eta b w ∷ []) s) is
    ∙ new-one mode a w s (ap (λ (b : SimpleType). takes_witness mode b s) (sym is) ∙ sym c.takes_witness.ensures ∙ c.if-takes_witness.true)

pub returns-clause-state : goal.returns-clause-state
returns-clause-state g c = λ a f denies.
    let core = c.args.core.now in
    let mode = core.plan.rule.mode in
    let s = the_state core.tables core.plan in
    let is = c.in_ok-ty.ensures a f denies in
    new-none mode a (constant (witness c.args.w)) s (ap (λ (b : SimpleType). takes_witness mode b s) (sym is) ∙ sym c.takes_witness.ensures ∙ c.if-takes_witness.false)

pub returns-clause-basis : goal.returns-clause-basis
returns-clause-basis g c = same-grows c.args.core.now.tables.basis c.args.core.now.tables.basis refl
