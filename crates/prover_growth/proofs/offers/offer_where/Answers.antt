use Rattle.std.proofs.Common.{get_or, refl, sym, ◌∙◌}
use Rattle.stt_core.specs.View.{the_type}
use Rattle.stt_core.proofs.TypeLaws.{same_type-true}
use Rattle.term_bank.specs.Terms.{term_at}
use Rattle.witness_names.specs.Rows.{row_of}
use Rattle.prover_state.specs.Internal.Standing.{the_state}
use Rattle.prover_state.proofs.HoleLaws.{there-is}
use Rattle.prover_growth.proofs.OffersLaws.{row-there-is, offered-one, offered-none}
use Rattle.prover_growth.proofs.OpeningLaws.{same-grows}
use Rattle.prover_growth.proofs.offers.offer_where.Goals as goal

pub offer_witness-requires-clause-row : goal.offer_witness-requires-clause-row
offer_witness-requires-clause-row g c =
    let h = c.args.core.now.tables.basis in
    let id = get_or h.witnesses c.args.w 0 in
    let r = row_of (term_at h.bank.terms id) in
    let at = row-there-is h c.args.w id (there-is h.witnesses c.args.w 0 c.requires.number) in
    (r, (at, sym (same_type-true (the_type c.args.ty.now) r.type (sym (c.has_witness_type.ensures r at) ∙ c.if-has_witness_type.true))))

pub returns-then-has_witness_type-clause-state : goal.returns-then-has_witness_type-clause-state
returns-then-has_witness_type-clause-state g c = λ r e.
    let core = c.args.core.now in
    c.in_ok-offer_witness.ensures.state
    ∙ offered-one core.plan.rule.mode (the_type c.args.ty.now) c.args.w r (the_state core.tables core.plan) (sym (c.has_witness_type.ensures r e) ∙ c.if-has_witness_type.true)

pub returns-clause-state : goal.returns-clause-state
returns-clause-state g c = λ r e.
    let core = c.args.core.now in
    offered-none core.plan.rule.mode (the_type c.args.ty.now) c.args.w r (the_state core.tables core.plan) (sym (c.has_witness_type.ensures r e) ∙ c.if-has_witness_type.false)

pub returns-clause-basis : goal.returns-clause-basis
returns-clause-basis g c = same-grows c.args.core.now.tables.basis c.args.core.now.tables.basis refl
