use Rattle.std.proofs.Common.{List, sym, ap, subst, ◌∙◌}
use Rattle.stt_core.specs.SimpleType.{base}
use Rattle.stt_core.specs.Lambda.{Lambda}
use Rattle.search_spec.specs.Terms.{first_terms, with_terms}
use Rattle.prover_state.specs.declared.tables.Tables.{Tables}
use Rattle.prover_state.specs.Internal.Growing.{BasisGrows}
use Rattle.prover_state.specs.Internal.Standing.{the_state}
use Rattle.prover_state.proofs.StateStays.{state-stays, right-stays}
use Rattle.prover_growth.proofs.base_terms.begin_base.Goals as goal

pub add_terms-requires-clause-right : goal.add_terms-requires-clause-right
add_terms-requires-clause-right g c =
    let t = c.args.core.now.tables in
    let q = c.args.core.now.plan in
    right-stays t q c.first_terms_of.new.basis c.in_ok-first.ensures.grows c.requires.right c.in_ok-first.ensures.good

pub returns-clause-state : goal.returns-clause-state
returns-clause-state g c =
    let t = c.args.core.now.tables in
    let q = c.args.core.now.plan in
    let basis = c.first_terms_of.new.basis in
    let mid = record t { basis = basis } in
    let mode = q.rule.mode in
    let a = base c.args.n in
    c.in_ok-add_terms.ensures.state
    ∙ ap (λ (us : List Lambda). with_terms mode a us (the_state mid q)) c.in_ok-first.ensures.terms
    ∙ ap (with_terms mode a (first_terms a)) (state-stays t q basis c.in_ok-first.ensures.grows c.requires.right)

pub returns-clause-basis : goal.returns-clause-basis
returns-clause-basis g c =
    subst (BasisGrows c.args.core.now.tables.basis) (sym (ap (λ (t : Tables). t.basis) c.in_ok-add_terms.ensures.tables)) c.in_ok-first.ensures.grows
