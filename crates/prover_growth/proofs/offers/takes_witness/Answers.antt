use Rattle.std.proofs.Common.{sym, ap, ◌∙◌}
use Rattle.stt_core.specs.View.{the_type}
use Rattle.prover_state.specs.Internal.Standing.{the_state}
use Rattle.prover_growth.proofs.OffersLaws.{offers-not, offers-so, takes-none, takes-base, takes-arrow}
use Rattle.prover_growth.proofs.offers.takes_witness.Goals as goal

pub returns-then-mode-eq0 : goal.returns-then-mode-eq0
returns-then-mode-eq0 g c =
    let core = c.args.core.now in
    let mode = core.plan.rule.mode in
    sym (takes-none mode (the_type c.args.ty.now) (the_state core.tables core.plan) (offers-not mode (sym (ap (λ m. m.terms) c.mode.ensures) ∙ c.if-mode-eq0.true)))

pub returns-in-Base : goal.returns-in-Base
returns-in-Base g c =
    let core = c.args.core.now in
    let mode = core.plan.rule.mode in
    sym (takes-base mode (the_type c.args.ty.now) c.in-Base.field-0 (the_state core.tables core.plan) (ap the_type c.in-Base.is) (offers-so mode (λ e. c.if-mode-eq0.false (ap (λ m. m.terms) c.mode.ensures ∙ e))))

pub returns-in-Arrow : goal.returns-in-Arrow
returns-in-Arrow g c =
    let core = c.args.core.now in
    let mode = core.plan.rule.mode in
    c.is_prepared.ensures
    ∙ sym (takes-arrow mode (the_type c.args.ty.now) _ _ (the_state core.tables core.plan) (ap the_type c.in-Arrow.is) (offers-so mode (λ e. c.if-mode-eq0.false (ap (λ m. m.terms) c.mode.ensures ∙ e))))
