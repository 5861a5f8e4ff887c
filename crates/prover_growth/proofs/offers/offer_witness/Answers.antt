use Rattle.std.proofs.Common.{sym, ap, subst, ◌∙◌}
use Rattle.std.proofs.lemmas.Option.{slice_get_within}
use Rattle.stt_core.specs.Lambda.{Lambda, constant, witness}
use Rattle.stt_core.specs.View.{the_type}
use Rattle.normal_forms.specs.Normal.{eta}
use Rattle.term_bank.proofs.GrowLaws.{has_at}
use Rattle.search_spec.specs.Terms.{with_term}
use Rattle.prover_state.specs.declared.tables.Tables.{Tables}
use Rattle.prover_state.specs.Internal.Growing.{BasisGrows}
use Rattle.prover_state.specs.Internal.Standing.{the_state}
use Rattle.prover_state.proofs.StateStays.{state-stays, right-stays}
use Rattle.prover_growth.proofs.offers.offer_witness.Goals as goal

pub add_term-requires-clause-right : goal.add_term-requires-clause-right
add_term-requires-clause-right g c =
    let t = c.args.core.now.tables in
    let q = c.args.core.now.plan in
    right-stays t q c.witness_in.new.basis c.in_ok-id.ensures.grows c.requires.right c.in_ok-id.ensures.good

pub add_term-requires-clause-place : goal.add_term-requires-clause-place
add_term-requires-clause-place g c =
    slice_get_within c.witness_in.new.basis.bank.terms c.in_ok-id.id (eta (the_type c.args.ty.now) (constant (witness c.args.w))) c.in_ok-id.ensures.term

pub returns-clause-state : goal.returns-clause-state
returns-clause-state g c =
    let t = c.args.core.now.tables in
    let q = c.args.core.now.plan in
    let basis = c.witness_in.new.basis in
    let mid = record t { basis = basis } in
    let mode = q.rule.mode in
    let a = the_type c.args.ty.now in
    let u = eta a (constant (witness c.args.w)) in
    c.in_ok-add_term.ensures.state
    ∙ ap (λ (k : Lambda). with_term mode a k (the_state mid q)) (has_at basis.bank c.in_ok-id.id u c.in_ok-id.ensures.term)
    ∙ ap (with_term mode a u) (state-stays t q basis c.in_ok-id.ensures.grows c.requires.right)

pub returns-clause-basis : goal.returns-clause-basis
returns-clause-basis g c =
    subst (BasisGrows c.args.core.now.tables.basis) (sym (ap (λ (t : Tables). t.basis) c.in_ok-add_term.ensures.tables)) c.in_ok-id.ensures.grows
