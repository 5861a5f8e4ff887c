use Rattle.std.proofs.Common.{map, sym, ap, subst, ◌∙◌, arith}
use Rattle.stt_core.specs.View.{the_type}
use Rattle.term_bank.specs.Terms.{term_at}
use Rattle.search_spec.specs.Terms.{with_terms}
use Rattle.prover_state.specs.declared.command.Delays.{Delays}
use Rattle.prover_state.specs.declared.tables.Basis.{Basis}
use Rattle.prover_state.specs.declared.tables.Tables.{Tables}
use Rattle.prover_state.specs.Internal.Names.{IsPlace}
use Rattle.prover_state.specs.Internal.Standing.{the_state}
use Rattle.prover_state.proofs.EachLaws.{each-at}
use Rattle.prover_growth.proofs.BaseTermLaws.{terms-more, terms-all}
use Rattle.prover_growth.proofs.base_terms.add_terms.Goals as goal

pub add_term-requires-clause-place : goal.add_term-requires-clause-place
add_term-requires-clause-place g c =
    let first = c.args.core.now in
    let basis = ap (λ (t : Tables). t.basis) c.loop-i.invariant.tables in
    subst (λ (h : Basis). IsPlace h.bank.terms c.at.result) (sym basis) (each-at (IsPlace first.tables.basis.bank.terms) c.args.ids.now c.loop-i.i c.at.result c.requires.places c.at.ensures)

pub loop-i-preserved : goal.loop-i-preserved
loop-i-preserved g c =
    let first = c.args.core.now in
    let core = c.loop-i.core in
    let inv = c.loop-i.invariant in
    let a = the_type c.args.ty.now in
    let mode = first.plan.rule.mode in
    let d = term_at first.tables.basis.bank.terms in
    let goal_state = with_terms mode a (map d c.args.ids.now) (the_state first.tables first.plan) in
    let basis = ap (λ (t : Tables). t.basis) inv.tables in
    record {
      right = c.in_ok-add_term.ensures.stays.right;
      tables = c.in_ok-add_term.ensures.tables ∙ ap (λ (t : Tables). record t { terms = c.add_term.new.self.tables.terms }) inv.tables;
      rule = c.in_ok-add_term.ensures.stays.rule ∙ inv.rule;
      state =
          terms-more mode a d c.args.ids.now c.loop-i.i c.at.result c.at.ensures
          goal_state (the_state core.tables core.plan) (the_state c.add_term.new.self.tables c.add_term.new.self.plan) core.plan.rule.mode
          (term_at core.tables.basis.bank.terms c.at.result)
          (ap (λ (r : Delays). r.mode) inv.rule) (ap (λ (h : Basis). term_at h.bank.terms c.at.result) basis) c.in_ok-add_term.ensures.state inv.state;
    }

pub returns-clause-state : goal.returns-clause-state
returns-clause-state g c =
    let first = c.args.core.now in
    terms-all first.plan.rule.mode (the_type c.args.ty.now) (term_at first.tables.basis.bank.terms) c.args.ids.now c.loop-i.i (omega (arith, c.loop-i-test.false))
    (the_state c.loop-i.core.tables c.loop-i.core.plan) _ c.loop-i.invariant.state
