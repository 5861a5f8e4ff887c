use Rattle.std.proofs.Common.{◌≡◌, true, length, refl, sym, ap₂, subst, ◌∙◌}
use Rattle.stt_core.specs.SimpleType.{is_declared}
use Rattle.stt_core.specs.View.{the_type}
use Rattle.search_spec.specs.State.{State, Setting}
use Rattle.search_spec.specs.Preparing.{with_beginning}
use Rattle.prover_state.specs.Internal.Standing.{setting_by, the_state}
use Rattle.prover_growth.proofs.BasisLaws.{basis-grows-on, setting-grown}
use Rattle.prover_growth.proofs.OpeningLaws.{prepared-before, prepared-now, same-grows}
use Rattle.prover_growth.proofs.opening.prepare.Goals as goal

pub returns-then-is_prepared-clause-state : goal.returns-then-is_prepared-clause-state
returns-then-is_prepared-clause-state g c =
    let t = c.args.core.now.tables in
    let q = c.args.core.now.plan in
    prepared-before (setting_by t q) (the_type c.args.ty.now) (the_state t q) (sym c.is_prepared.ensures ∙ c.if-is_prepared.true)

pub returns-then-is_prepared-clause-basis : goal.returns-then-is_prepared-clause-basis
returns-then-is_prepared-clause-basis g c = same-grows c.args.core.now.tables.basis c.args.core.now.tables.basis refl

pub begin-requires-clause-declared : goal.begin-requires-clause-declared
begin-requires-clause-declared g c =
    let t = c.args.core.now.tables in
    let u = c.offer_early.new.core.tables in
    let D = λ (bs : _). is_declared (length bs) (the_type c.args.ty.now) ≡ true in
    subst D (sym c.in_ok-offer_early.ensures.basis.bank.bases) c.requires.declared

pub returns-clause-state : goal.returns-clause-state
returns-clause-state g c =
    let t = c.args.core.now.tables in
    let q = c.args.core.now.plan in
    let u = c.offer_early.new.core.tables in
    let p = c.offer_early.new.core.plan in
    let a = the_type c.args.ty.now in
    let same : setting_by u p ≡ setting_by t q = setting-grown t u q p c.in_ok-offer_early.ensures.basis c.in_ok-offer_early.ensures.stays.rule in
    c.in_ok-begin.ensures.state
    ∙ ap₂ (λ (x : Setting) (s : State). with_beginning x a s) same c.in_ok-offer_early.ensures.state
    ∙ prepared-now (setting_by t q) a (the_state t q) (sym c.is_prepared.ensures ∙ c.if-is_prepared.false)

pub returns-clause-basis : goal.returns-clause-basis
returns-clause-basis g c =
    basis-grows-on c.args.core.now.tables.basis c.offer_early.new.core.tables.basis c.begin.new.core.tables.basis c.in_ok-offer_early.ensures.basis c.in_ok-begin.ensures.basis
