use Rattle.std.proofs.Common.{true, suc, ap, ◌∙◌}
use Rattle.std.proofs.lemmas.Bool.{not-true, not-false}
use Rattle.stt_core.specs.SimpleType.{base}
use Rattle.stt_core.specs.Lambda.{eq}
use Rattle.tableau_calculus.specs.Literals.{Literal, plus}
use Rattle.literal_map.specs.Atoms.{bank_literal}
use Rattle.search_spec.specs.Partners.{confrontations}
use Rattle.search_spec.specs.State.{with_commands}
use Rattle.prover_state.specs.declared.tables.Tables.{Tables}
use Rattle.prover_state.specs.Internal.Pending.{equation_type}
use Rattle.prover_state.specs.Internal.Standing.{setting_by, the_state}
use Rattle.prover_search.specs.declared.shape.Shape.TheVariants.{BaseEquation}
use Rattle.prover_search.proofs.AdvanceLaws.{advances-still}
use Rattle.prover_search.proofs.ShapedLaws.{shaped-as, base-equation}
use Rattle.prover_search.proofs.WorkLaws.{literal-is, worked-as}
use Rattle.prover_search.proofs.equation.work_on_terms.Goals as goal

pub work_on_difference-requires-clause-negative : goal.work_on_difference-requires-clause-negative
work_on_difference-requires-clause-negative g c = not-true c.args.lit.positive c.if-not-lit.true

pub push_confrontations-requires-clause-equation : goal.push_confrontations-requires-clause-equation
push_confrontations-requires-clause-equation g c = let basis = c.args.core.now.tables.basis in base-equation (bank_literal basis.bank.terms basis.lits c.args.lit).atom c.args.n c.requires.shape

pub returns-clause-state : goal.returns-clause-state
returns-clause-state g c =
    let core = c.args.core.now in
    let basis = core.tables.basis in
    let new = c.push_confrontations.new.self in
    let l : Literal = bank_literal basis.bank.terms basis.lits c.args.lit in
    let s = the_state core.tables core.plan in
    let mode = core.plan.rule.mode in
    let k = shaped-as l.atom (BaseEquation c.args.n) c.requires.shape in
    let e = literal-is l true (eq (base (suc k.0)) k.1 k.2) (not-false c.args.lit.positive c.if-not-lit.false) k.4 in
    worked-as (setting_by core.tables core.plan) s l (plus (eq (base (suc k.0)) k.1 k.2)) (the_state new.tables new.plan) e
    (c.in_ok-push_confrontations.ensures.state ∙ ap (λ (m : Literal). with_commands mode (confrontations (equation_type m.atom) m s.noted) s) e)

pub returns-clause-advances : goal.returns-clause-advances
returns-clause-advances g c =
    let same = c.push_confrontations.ensures.tables in
    advances-still c.args.core.now c.push_confrontations.new.self c.in_ok-push_confrontations.ensures.stays (ap (λ (x : Tables). x.basis) same) (ap (λ (x : Tables). x.steps) same) (ap (λ (x : Tables). x.done) same)
