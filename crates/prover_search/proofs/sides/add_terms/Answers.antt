use Rattle.std.proofs.Common.{sym, ap, ap₂, ◌∙◌, subst}
use Rattle.stt_core.specs.Lambda.{Lambda}
use Rattle.stt_core.specs.View.{the_type}
use Rattle.term_bank.specs.Terms.{term_at}
use Rattle.mode_file.specs.declared.Mode.{Mode}
use Rattle.search_spec.specs.Terms.{with_term}
use Rattle.prover_state.specs.declared.tables.Tables.{Tables}
use Rattle.prover_state.specs.Internal.Names.{IsPlace}
use Rattle.prover_state.specs.Internal.Standing.{the_state}
use Rattle.prover_search.proofs.WorkLaws.{mode-same}
use Rattle.prover_search.proofs.sides.add_terms.Goals as goal

pub add_term-requires-2-clause-place : goal.add_term-requires-2-clause-place
add_term-requires-2-clause-place g c =
    let P : Tables → Type 0 = λ x. IsPlace x.basis.bank.terms c.args.sides.right in
    subst P (sym c.in_ok-add_term.ensures.tables) c.requires.right_place

pub returns-clause-state : goal.returns-clause-state
returns-clause-state g c =
    let core = c.args.core.now in
    let one = c.add_term.new.self in
    let b = the_type c.args.ty.now in
    c.in_ok-add_term-2.ensures.state
    ∙ ap₂ (λ (m : Mode) (y : Lambda). with_term m b y (the_state one.tables one.plan)) (mode-same core.tables one.tables core.plan one.plan c.in_ok-add_term.ensures.stays.rule)
    (ap (λ (x : Tables). term_at x.basis.bank.terms c.args.sides.right) c.in_ok-add_term.ensures.tables)
    ∙ ap (with_term core.plan.rule.mode b (term_at core.tables.basis.bank.terms c.args.sides.right)) c.in_ok-add_term.ensures.state

pub returns-clause-tables : goal.returns-clause-tables
returns-clause-tables g c =
    let two = c.add_term-2.new.self in
    c.in_ok-add_term-2.ensures.tables ∙ ap (λ (x : Tables). record x { terms = two.tables.terms }) c.in_ok-add_term.ensures.tables
