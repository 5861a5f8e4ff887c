use Rattle.std.proofs.Common.{◌≡◌, ◌<◌, ◌-◌, ◌^◌, false, length, sym, ap, subst, ◌∙◌}
use Rattle.stt_core.specs.SimpleType.{arrow}
use Rattle.stt_core.specs.Lambda.{eq}
use Rattle.tableau_calculus.specs.Literals.{Literal}
use Rattle.literal_map.specs.Atoms.{bank_literal}
use Rattle.prover_state.specs.declared.tables.Basis.{Basis}
use Rattle.prover_state.specs.declared.tables.Tables.{Tables}
use Rattle.tableau_calculus.specs.Rules.{fun_neg}
use Rattle.prover_search.specs.declared.shape.Shape.TheVariants.{FunctionEquation}
use Rattle.prover_search.proofs.AloneUses.{fun_neg-takes}
use Rattle.prover_search.proofs.AdvanceLaws.{advances-still, alone-then}
use Rattle.prover_search.proofs.ShapedLaws.{shaped-as}
use Rattle.prover_search.proofs.WorkLaws.{literal-is, literal-same, number-same, function-is}
use Rattle.prover_search.proofs.equation.work_on_unequal.Goals as goal

pub apply_alone-requires-clause-number : goal.apply_alone-requires-clause-number
apply_alone-requires-clause-number g c =
    let t = c.args.core.now.tables in
    let one = c.offer_sides.new.core in
    number-same t.basis one.tables.basis c.args.lit (ap (λ (x : Tables). x.basis) c.in_ok-offer_sides.ensures.tables) c.requires.number

pub apply_alone-requires-clause-ready : goal.apply_alone-requires-clause-ready
apply_alone-requires-clause-ready g c =
    let P : Basis → Type 0 = λ x. length x.witnesses < 2 ^ 32 - 1 in
    record { right = c.in_ok-offer_sides.ensures.stays.right; few = subst P (sym (ap (λ (x : Tables). x.basis) c.in_ok-offer_sides.ensures.tables)) c.requires.ready.few }

pub apply_alone-requires-clause-fits : goal.apply_alone-requires-clause-fits
apply_alone-requires-clause-fits g c =
    let t = c.args.core.now.tables in
    let one = c.offer_sides.new.core in
    let lit = c.args.lit in
    let l : Literal = bank_literal t.basis.bank.terms t.basis.lits lit in
    let k = shaped-as l.atom FunctionEquation c.requires.shape in
    let e = literal-is l false (eq (arrow k.0 k.1) k.2 k.3) c.requires.negative k.4 in
    let basis : one.tables.basis ≡ t.basis = ap (λ (x : Tables). x.basis) c.in_ok-offer_sides.ensures.tables in
    (_, fun_neg-takes one.tables.basis lit k.0 k.1 k.2 k.3 (literal-same t.basis one.tables.basis lit basis ∙ e))

pub returns-clause-state : goal.returns-clause-state
returns-clause-state g c =
    let core = c.args.core.now in
    let t = core.tables in
    let one = c.offer_sides.new.core in
    let two = c.apply_alone.new.core in
    let lit = c.args.lit in
    let l : Literal = bank_literal t.basis.bank.terms t.basis.lits lit in
    let k = shaped-as l.atom FunctionEquation c.requires.shape in
    let e = literal-is l false (eq (arrow k.0 k.1) k.2 k.3) c.requires.negative k.4 in
    let basis : one.tables.basis ≡ t.basis = ap (λ (x : Tables). x.basis) c.in_ok-offer_sides.ensures.tables in
    function-is t one.tables two.tables two.tables core.plan one.plan two.plan two.plan lit c.in_ok-offer_sides.ensures.stays.rule basis k.0 k.1 k.2 k.3 e c.requires.differs
    (c.in_ok-offer_sides.ensures.state (arrow k.0 k.1) k.2 k.3 k.4)
    (c.in_ok-apply_alone.ensures.state (fun_neg k.0 k.1 k.2 k.3) (fun_neg-takes one.tables.basis lit k.0 k.1 k.2 k.3 (literal-same t.basis one.tables.basis lit basis ∙ e)))

pub returns-clause-advances : goal.returns-clause-advances
returns-clause-advances g c =
    let core = c.args.core.now in
    let one = c.offer_sides.new.core in
    let made = c.in_ok-offer_sides.ensures.tables in
    alone-then core one c.apply_alone.new.core
    (advances-still core one c.in_ok-offer_sides.ensures.stays (ap (λ (x : Tables). x.basis) made) (ap (λ (x : Tables). x.steps) made) (ap (λ (x : Tables). x.done) made))
    c.in_ok-apply_alone.ensures.advances
