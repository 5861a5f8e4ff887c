use Rattle.std.proofs.Common.{sym, ap, ◌∙◌}
use Rattle.stt_core.specs.View.{the_type}
use Rattle.prover_state.specs.Internal.Standing.{the_state}
use Rattle.prover_growth.proofs.OffersLaws.{offers-not, offers-so, prepared-terms, prepared-ranged, prepared-parked}
use Rattle.prover_growth.proofs.opening.is_prepared.Goals as goal

pub returns-then-mode-eq0 : goal.returns-then-mode-eq0
returns-then-mode-eq0 g c =
    let core = c.args.core.now in
    let mode = core.plan.rule.mode in
    prepared-terms mode (the_type c.args.ty.now) c.in-Base.field-0 (the_state core.tables core.plan) c.has_terms.result (ap the_type c.in-Base.is)
    (offers-not mode (sym (ap (λ m. m.terms) c.mode.ensures) ∙ c.if-mode-eq0.true)) (sym c.has_terms.ensures)

pub returns-else-mode-eq0 : goal.returns-else-mode-eq0
returns-else-mode-eq0 g c =
    let core = c.args.core.now in
    let mode = core.plan.rule.mode in
    prepared-ranged mode (the_type c.args.ty.now) c.in-Base.field-0 (the_state core.tables core.plan) c.is_ranged_over.result (ap the_type c.in-Base.is)
    (offers-so mode (λ e. c.if-mode-eq0.false (ap (λ m. m.terms) c.mode.ensures ∙ e))) (sym c.is_ranged_over.ensures)

pub returns-in-Arrow : goal.returns-in-Arrow
returns-in-Arrow g c =
    let core = c.args.core.now in
    prepared-parked core.plan.rule.mode (the_type c.args.ty.now) _ _ (the_state core.tables core.plan) c.has_type.result (ap the_type c.in-Arrow.is)
    (c.requires.right.roots (the_type c.args.ty.now) ∙ sym c.has_type.ensures)
