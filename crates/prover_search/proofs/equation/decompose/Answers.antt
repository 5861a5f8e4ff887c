use Rattle.std.proofs.Common.{suc, [], ◌∷◌, sym, ap, ◌∙◌, subst}
use Rattle.stt_core.specs.SimpleType.{base}
use Rattle.stt_core.specs.Typing.{IsScope, type_of}
use Rattle.tableau_calculus.specs.Literals.{Literal}
use Rattle.tableau_calculus.specs.Rules.{Alternatives, differ}
use Rattle.search_spec.specs.Instances.{with_instance}
use Rattle.search_spec.specs.Spine.{head_of, arguments}
use Rattle.term_bank.specs.Terms.{term_at}
use Rattle.prover_state.specs.Internal.Standing.{scope_by, setting_by, the_state}
use Rattle.prover_search.proofs.AdvanceLaws.{advances-not}
use Rattle.prover_search.proofs.RuleUses.{scope-is}
use Rattle.prover_search.proofs.AloneUses.{dec-takes}
use Rattle.prover_search.proofs.WorkLaws.{decomposed-not, decomposed-is}
use Rattle.prover_search.proofs.equation.decompose.Goals as goal

pub returns-then-not-share_spine-clause-state : goal.returns-then-not-share_spine-clause-state
returns-then-not-share_spine-clause-state g c = λ n e.
    let core = c.args.core.now in
    let terms = core.tables.basis.bank.terms in
    decomposed-not (setting_by core.tables core.plan) (the_state core.tables core.plan) (base (suc n)) (term_at terms c.args.sides.left) (term_at terms c.args.sides.right)
    (sym c.share_spine.ensures ∙ c.if-not-share_spine.true)

pub apply_alone-requires-clause-fits : goal.apply_alone-requires-clause-fits
apply_alone-requires-clause-fits g c =
    let basis = c.args.core.now.tables.basis in
    let good = c.requires.ready.right.basis in (
      _,
      dec-takes basis c.args.lit good c.requires.number (subst IsScope (sym (scope-is basis good)) c.sig-declared.ensures.declared) c.requires.denies.0 (term_at basis.bank.terms c.args.sides.left) (term_at basis.bank.terms c.args.sides.right) c.requires.denies.1
          (sym c.share_spine.ensures ∙ c.if-not-share_spine.false),
    )

pub returns-clause-state : goal.returns-clause-state
returns-clause-state g c = λ n e.
    let core = c.args.core.now in
    let basis = core.tables.basis in
    let good = c.requires.ready.right.basis in
    let x = term_at basis.bank.terms c.args.sides.left in
    let y = term_at basis.bank.terms c.args.sides.right in
    let s = the_state core.tables core.plan in
    let setting = setting_by core.tables core.plan in
    let both = sym c.share_spine.ensures ∙ c.if-not-share_spine.false in
    let over = subst IsScope (sym (scope-is basis good)) c.sig-declared.ensures.declared in
    let as' : Alternatives = differ (type_of (scope_by basis) [] (head_of x)) (arguments x) (arguments y) in
    c.in_ok-apply_alone.ensures.state as' (dec-takes basis c.args.lit good c.requires.number over n x y e both)
    ∙ ap (λ (k : Literal). with_instance core.plan.rule.mode (k ∷ []) as' s) e
    ∙ decomposed-is setting s (base (suc n)) x y both

pub returns-then-not-share_spine-clause-advances : goal.returns-then-not-share_spine-clause-advances
returns-then-not-share_spine-clause-advances g c = advances-not c.args.core.now c.requires.ready.right
