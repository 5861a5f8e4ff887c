use Rattle.std.proofs.Common.{◌≡◌, true, [], sym, ap, ◌∙◌, subst}
use Rattle.stt_core.specs.SimpleType.{SimpleType, formula, is_declared}
use Rattle.stt_core.specs.Lambda.{Lambda, every}
use Rattle.stt_core.specs.View.{the_type}
use Rattle.stt_core.specs.Canonical.{IsCanonical}
use Rattle.tableau_calculus.specs.Literals.{Literal}
use Rattle.tableau_calculus.proofs.FunctionLaws.{every_canonical}
use Rattle.literal_map.specs.Atoms.{bank_literal}
use Rattle.search_spec.specs.Preparing.{with_preparation}
use Rattle.prover_state.specs.declared.tables.Tables.{Tables}
use Rattle.prover_state.specs.Internal.Pending.{range_of}
use Rattle.prover_state.specs.Internal.Standing.{scope_by, setting_by, the_state}
use Rattle.prover_search.specs.declared.shape.Shape.TheVariants.{Quantified}
use Rattle.prover_search.proofs.AloneUses.{atom-canonical}
use Rattle.prover_search.proofs.AdvanceLaws.{advances-still, advances-grown, alone-then}
use Rattle.prover_search.proofs.DevelopLaws.{grows-wider}
use Rattle.prover_search.proofs.MadeStays.{number-wider, literal-wider}
use Rattle.prover_search.proofs.ShapedLaws.{shaped-as}
use Rattle.prover_search.proofs.WorkLaws.{literal-is, universal-is}
use Rattle.prover_search.proofs.quantifier.work_on_universal.Goals as goal

pub prepare-requires-clause-declared : goal.prepare-requires-clause-declared
prepare-requires-clause-declared g c =
    let basis = c.args.core.now.tables.basis in
    let l : Literal = bank_literal basis.bank.terms basis.lits c.args.lit in
    let k = shaped-as l.atom Quantified c.requires.shape in
    let C : Lambda → Type 0 = λ x. IsCanonical (scope_by basis) [] formula x in
    let D : SimpleType → Type 0 = λ a. is_declared (scope_by basis).bases a ≡ true in
    subst D (sym (c.in_ok-ty.ensures ∙ ap range_of k.2)) (every_canonical (scope_by basis) k.0 k.1 (subst C k.2 (atom-canonical basis c.requires.right.basis c.args.lit c.requires.number))).0

pub push_instances-requires-clause-number : goal.push_instances-requires-clause-number
push_instances-requires-clause-number g c =
    let core = c.args.core.now in
    let t = core.tables in
    let u = c.prepare.new.core.tables in
    let lit = c.args.lit in
    let l : Literal = bank_literal t.basis.bank.terms t.basis.lits lit in
    let k = shaped-as l.atom Quantified c.requires.shape in
    let wider = grows-wider t.basis u.basis c.in_ok-prepare.ensures.basis in
    number-wider t.basis u.basis c.requires.right.basis wider lit c.requires.number

pub push_instances-requires-clause-quantified : goal.push_instances-requires-clause-quantified
push_instances-requires-clause-quantified g c =
    let core = c.args.core.now in
    let t = core.tables in
    let u = c.prepare.new.core.tables in
    let lit = c.args.lit in
    let l : Literal = bank_literal t.basis.bank.terms t.basis.lits lit in
    let k = shaped-as l.atom Quantified c.requires.shape in
    let wider = grows-wider t.basis u.basis c.in_ok-prepare.ensures.basis in
    record { type = k.0; predicate = k.1; is = ap (λ (x : Literal). x.atom) (literal-wider t.basis u.basis c.requires.right.basis wider lit c.requires.number) ∙ k.2 }

pub returns-clause-state : goal.returns-clause-state
returns-clause-state g c =
    let core = c.args.core.now in
    let t = core.tables in
    let u = c.prepare.new.core.tables in
    let lit = c.args.lit in
    let l : Literal = bank_literal t.basis.bank.terms t.basis.lits lit in
    let k = shaped-as l.atom Quantified c.requires.shape in
    let wider = grows-wider t.basis u.basis c.in_ok-prepare.ensures.basis in
    let one = c.prepare.new.core in
    let two = c.push_instances.new.self in
    let a : the_type c.in_ok-ty.ty ≡ k.0 = c.in_ok-ty.ensures ∙ ap range_of k.2 in
    universal-is t one.tables two.tables two.tables core.plan one.plan two.plan two.plan lit c.requires.right.basis c.requires.number wider c.in_ok-prepare.ensures.stays.rule k.0 k.1
    (literal-is l true (every k.0 k.1) c.requires.positive k.2)
    (c.in_ok-prepare.ensures.state ∙ ap (λ (x : SimpleType). with_preparation (setting_by t core.plan) x (the_state t core.plan)) a)
    c.in_ok-push_instances.ensures.state

pub returns-clause-advances : goal.returns-clause-advances
returns-clause-advances g c =
    let core = c.args.core.now in
    let one = c.prepare.new.core in
    let two = c.push_instances.new.self in
    let made = c.in_ok-prepare.ensures.tables in
    let same = c.push_instances.ensures.tables in
    alone-then core one two
    (advances-grown core one c.in_ok-prepare.ensures.stays c.in_ok-prepare.ensures.basis (ap (λ (x : Tables). x.steps) made) (ap (λ (x : Tables). x.done) made))
    (advances-still one two c.in_ok-push_instances.ensures.stays (ap (λ (x : Tables). x.basis) same) (ap (λ (x : Tables). x.steps) same) (ap (λ (x : Tables). x.done) same))
