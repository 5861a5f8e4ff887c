use Rattle.std.proofs.Common.{ap, ap₂, subst, sym, ◌∙◌}
use Rattle.std.proofs.lemmas.Option.{get_or_from_slice_get, slice_get_within}
use Rattle.stt_core.specs.SimpleType.{SimpleType}
use Rattle.stt_core.specs.Lambda.{Lambda, bound}
use Rattle.search_spec.specs.Terms.{with_term}
use Rattle.instantiate.specs.Internal.Blanks.{term_of}
use Rattle.search_spec.specs.Commands.{growth_by}
use Rattle.prover_state.specs.declared.tables.Basis.{Basis}
use Rattle.prover_state.specs.declared.tables.Tables.{Tables}
use Rattle.prover_state.specs.Internal.Growing.{BasisGrows}
use Rattle.prover_state.specs.Internal.Heads.{the_hole_head}
use Rattle.prover_state.specs.Internal.Names.{sketch_at}
use Rattle.prover_state.specs.Internal.Standing.{scope_by, sketches_in, the_state, IsRightState}
use Rattle.prover_state.proofs.StateStays.{state-stays, right-stays}
use Rattle.prover_growth.proofs.filling.fill_last.Goals as goal

pub add_term-requires-clause-right : goal.add_term-requires-clause-right
add_term-requires-clause-right g c =
    let t = c.args.core.now.tables in
    let q = c.args.core.now.plan in
    let t1 = c.make_term.new.tables in
    let R : Tables → Type 0 = λ u. IsRightState u q in
    subst R (sym c.make_term.ensures.tables) (right-stays t q t1.basis c.in_ok-id.ensures.basis c.requires.right c.in_ok-id.ensures.good)

pub add_term-requires-clause-place : goal.add_term-requires-clause-place
add_term-requires-clause-place g c =
    let t = c.args.core.now.tables in
    let t1 = c.make_term.new.tables in
    let u = term_of (growth_by (scope_by t.basis) (the_hole_head c.args.head) (sketch_at (sketches_in t) c.args.parent)).partial in
    slice_get_within t1.basis.bank.terms c.in_ok-id.id u c.in_ok-id.ensures.term

pub returns-clause-state : goal.returns-clause-state
returns-clause-state g c =
    let t = c.args.core.now.tables in
    let q = c.args.core.now.plan in
    let t1 = c.make_term.new.tables in
    let mode = q.rule.mode in
    let u = term_of (growth_by (scope_by t.basis) (the_hole_head c.args.head) (sketch_at (sketches_in t) c.args.parent)).partial in
    let type = c.in_ok-ty.ensures ∙ c.root_of.ensures in
    let term = get_or_from_slice_get t1.basis.bank.terms c.in_ok-id.id u (bound 0) c.in_ok-id.ensures.term in
    let state = ap (λ (v : Tables). the_state v q) c.make_term.ensures.tables ∙ state-stays t q t1.basis c.in_ok-id.ensures.basis c.requires.right in
    c.in_ok-add_term.ensures.state
    ∙ ap₂ (λ (a : SimpleType) (k : Lambda). with_term mode a k (the_state t1 q)) type term
    ∙ ap (with_term mode (sketch_at (sketches_in t) c.args.parent).type u) state

pub returns-clause-basis : goal.returns-clause-basis
returns-clause-basis g c =
    let t = c.args.core.now.tables in
    let B : Basis → Type 0 = λ b. BasisGrows t.basis b in
    subst B (sym (ap (λ (v : Tables). v.basis) c.in_ok-add_term.ensures.tables)) c.in_ok-id.ensures.basis
