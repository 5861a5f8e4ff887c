use Rattle.std.proofs.Common.{sym, ap, subst, ◌∙◌}
use Rattle.stt_core.specs.SimpleType.{SimpleType}
use Rattle.term_bank.specs.Content.{content_scope}
use Rattle.term_bank.specs.Terms.{term_at}
use Rattle.tableau_calculus.specs.Each.{Each}
use Rattle.search_spec.specs.Selections.{by_choice, by_description, with_selection, with_selections}
use Rattle.search_spec.proofs.TypedSelections.{IsPredicate}
use Rattle.std.proofs.lemmas.Result.{on_ok_weaker}
use Rattle.prover_state.specs.Internal.Standing.{the_state}
use Rattle.prover_state.proofs.SelectingLaws.{head-typed, binder-is}
use Rattle.prover_state.proofs.tables.Core.select_head.Goals as goal

pub returns-in-Chosen-clause-state : goal.returns-in-Chosen-clause-state
returns-in-Chosen-clause-state g c =
    let t = c.args.self.now.tables in
    let b = t.basis.bank in
    let u = term_at b.terms c.args.id in
    let f = term_at b.terms c.in-Chosen.predicate in
    let mode = c.args.self.now.plan.rule.mode in
    let s = the_state t c.args.self.now.plan in
    let a = c.in-Chosen.ensures.1.0 in
    let is = c.in-Chosen.ensures.1.1 in
    let typed = subst (Each (IsPredicate (content_scope b))) is (head-typed (content_scope b) b.terms c.node-typed.result.now u c.node-typed.ensures.term c.node-typed.ensures.typed) in
    on_ok_weaker c.choose.result
    (λ e. e ∙ ap (λ (x : SimpleType). with_selection mode (by_choice x f) s) (sym (binder-is (content_scope b) a f typed.0)) ∙ sym (ap (λ ps. with_selections mode ps s) is))
    c.choose.ensures.state

pub returns-in-Described-clause-state : goal.returns-in-Described-clause-state
returns-in-Described-clause-state g c =
    let t = c.args.self.now.tables in
    let b = t.basis.bank in
    let u = term_at b.terms c.args.id in
    let f = term_at b.terms c.in-Described.predicate in
    let mode = c.args.self.now.plan.rule.mode in
    let s = the_state t c.args.self.now.plan in
    let a = c.in-Described.ensures.1.0 in
    let is = c.in-Described.ensures.1.1 in
    let typed = subst (Each (IsPredicate (content_scope b))) is (head-typed (content_scope b) b.terms c.node-typed.result.now u c.node-typed.ensures.term c.node-typed.ensures.typed) in
    on_ok_weaker c.describe.result
    (λ e. e ∙ ap (λ (x : SimpleType). with_selection mode (by_description x f) s) (sym (binder-is (content_scope b) a f typed.0)) ∙ sym (ap (λ ps. with_selections mode ps s) is))
    c.describe.ensures.state
