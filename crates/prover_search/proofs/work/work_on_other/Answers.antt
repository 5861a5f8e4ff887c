use Rattle.std.proofs.Common.{refl, sym, ap, ◌∙◌, subst}
use Rattle.tableau_calculus.specs.Literals.{Literal}
use Rattle.literal_map.specs.Atoms.{bank_literal}
use Rattle.search_spec.specs.Processing.{connective_rule}
use Rattle.search_spec.specs.State.{State, Setting}
use Rattle.tableau_rules.specs.Changes.{makes_witness}
use Rattle.prover_state.specs.Internal.Standing.{setting_by, the_state}
use Rattle.prover_search.specs.declared.shape.Shape.TheVariants.{Other}
use Rattle.prover_search.proofs.ShapedLaws.{shaped-as}
use Rattle.prover_search.proofs.ConnectiveLaws.{rule_named, none_named, alone-makes_none}
use Rattle.prover_search.proofs.AloneUses.{Takes, alone-takes}
use Rattle.prover_search.proofs.WorkLaws.{worked-by_rule, worked-mated}
use Rattle.prover_search.proofs.work.work_on_other.Goals as goal

pub apply_alone-requires-clause-unwitnessed : goal.apply_alone-requires-clause-unwitnessed
apply_alone-requires-clause-unwitnessed g c =
    let basis = c.args.core.now.tables.basis in
    let l : Literal = bank_literal basis.bank.terms basis.lits c.args.lit in
    let n = rule_named l c.in-Some.rule (connective_rule l.atom l.positive) (sym c.in-Some.is ∙ c.connective_rule.ensures) in
    ap makes_witness n.kind_is ∙ alone-makes_none n.rule.kind l n.rule.alternatives n.rule.fits

pub apply_alone-requires-clause-fits : goal.apply_alone-requires-clause-fits
apply_alone-requires-clause-fits g c =
    let basis = c.args.core.now.tables.basis in
    let lit = c.args.lit in
    let l : Literal = bank_literal basis.bank.terms basis.lits lit in
    let n = rule_named l c.in-Some.rule (connective_rule l.atom l.positive) (sym c.in-Some.is ∙ c.connective_rule.ensures) in
    (n.rule.alternatives, subst (λ k. Takes basis lit k n.rule.alternatives) (sym n.kind_is) (alone-takes basis lit n.rule.kind l n.rule.alternatives n.rule.fits refl))

pub returns-in_ok-apply_alone-in-Some-clause-state : goal.returns-in_ok-apply_alone-in-Some-clause-state
returns-in_ok-apply_alone-in-Some-clause-state g c =
    let core = c.args.core.now in
    let basis = core.tables.basis in
    let lit = c.args.lit in
    let l : Literal = bank_literal basis.bank.terms basis.lits lit in
    let setting : Setting = setting_by core.tables core.plan in
    let s : State = the_state core.tables core.plan in
    let n = rule_named l c.in-Some.rule (connective_rule l.atom l.positive) (sym c.in-Some.is ∙ c.connective_rule.ensures) in
    let takes = subst (λ k. Takes basis lit k n.rule.alternatives) (sym n.kind_is) (alone-takes basis lit n.rule.kind l n.rule.alternatives n.rule.fits refl) in
    c.in_ok-apply_alone-in-Some.ensures.state n.rule.alternatives takes ∙ worked-by_rule setting s l (shaped-as l.atom Other c.requires.shape) n.rule n.is

pub returns-in_ok-mate_with_noted-in-None-clause-state : goal.returns-in_ok-mate_with_noted-in-None-clause-state
returns-in_ok-mate_with_noted-in-None-clause-state g c =
    let core = c.args.core.now in
    let basis = core.tables.basis in
    let l : Literal = bank_literal basis.bank.terms basis.lits c.args.lit in
    let setting : Setting = setting_by core.tables core.plan in
    let s : State = the_state core.tables core.plan in
    let none = none_named l (connective_rule l.atom l.positive) (sym c.in-None.is ∙ c.connective_rule.ensures) in
    c.in_ok-mate_with_noted-in-None.ensures.state ∙ worked-mated setting s l (shaped-as l.atom Other c.requires.shape) none
