use Rattle.std.proofs.Common.{sym, ap, ◌∙◌}
use Rattle.tableau_calculus.specs.Literals.{Literal}
use Rattle.literal_map.specs.Atoms.{bank_literal}
use Rattle.prover_state.specs.Internal.Standing.{setting_by, the_state}
use Rattle.search_spec.specs.Spine.{is_spine}
use Rattle.prover_state.specs.declared.tables.Tables.{Tables}
use Rattle.prover_search.proofs.AdvanceLaws.{advances-not, advances-still}
use Rattle.prover_search.proofs.WorkLaws.{mated-not, mated-is}
use Rattle.prover_search.proofs.work.mate_with_noted.Goals as goal

pub returns-then-not-is_spine-clause-state : goal.returns-then-not-is_spine-clause-state
returns-then-not-is_spine-clause-state g c =
    let core = c.args.core.now in
    let basis = core.tables.basis in
    let lit = c.args.lit in
    let l : Literal = bank_literal basis.bank.terms basis.lits lit in
    let setting = setting_by core.tables core.plan in
    let s = the_state core.tables core.plan in
    mated-not setting s l (sym (c.is_spine.ensures ∙ ap is_spine c.atom_of-atom.ensures.atom) ∙ c.if-not-is_spine.true)

pub push_matings-requires-clause-spine : goal.push_matings-requires-clause-spine
push_matings-requires-clause-spine g c =
    sym (c.is_spine.ensures ∙ ap is_spine c.atom_of-atom.ensures.atom) ∙ c.if-not-is_spine.false

pub returns-clause-state : goal.returns-clause-state
returns-clause-state g c =
    let core = c.args.core.now in
    let basis = core.tables.basis in
    let lit = c.args.lit in
    let l : Literal = bank_literal basis.bank.terms basis.lits lit in
    let setting = setting_by core.tables core.plan in
    let s = the_state core.tables core.plan in
    c.in_ok-push_matings.ensures.state
    ∙ mated-is setting s l (sym (c.is_spine.ensures ∙ ap is_spine c.atom_of-atom.ensures.atom) ∙ c.if-not-is_spine.false)

pub returns-then-not-is_spine-clause-advances : goal.returns-then-not-is_spine-clause-advances
returns-then-not-is_spine-clause-advances g c = advances-not c.args.core.now c.requires.right

pub returns-clause-advances : goal.returns-clause-advances
returns-clause-advances g c =
    let same = c.push_matings.ensures.tables in
    advances-still c.args.core.now c.push_matings.new.self c.in_ok-push_matings.ensures.stays (ap (λ (x : Tables). x.basis) same) (ap (λ (x : Tables). x.steps) same) (ap (λ (x : Tables). x.done) same)
