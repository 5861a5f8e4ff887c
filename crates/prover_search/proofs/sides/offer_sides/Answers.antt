use Rattle.std.proofs.Common.{◌≡◌, Bool, [], ◌∷◌, sym, ap, ap₂, ◌∙◌, if◌then◌else◌}
use Rattle.stt_core.specs.SimpleType.{SimpleType}
use Rattle.stt_core.specs.Lambda.{Lambda, eq}
use Rattle.term_bank.specs.Terms.{term_at}
use Rattle.literal_map.specs.Atoms.{bank_atom}
use Rattle.search_spec.specs.Terms.{with_term, with_terms}
use Rattle.prover_state.specs.Internal.Pending.{equation_type}
use Rattle.prover_state.specs.Internal.Standing.{the_state}
use Rattle.prover_growth.proofs.OffersLaws.{offers-not, offers-so}
use Rattle.prover_search.proofs.ShapedLaws.{function-equated}
use Rattle.prover_search.proofs.sides.offer_sides.Goals as goal

same_sides : (a b : SimpleType) (s t x y : Lambda) → eq b s t ≡ eq a x y → (s ≡ x) × (t ≡ y)
same_sides a b s t x y e = (cc (e), cc (e))

pub returns-then-mode-eq0-clause-state : goal.returns-then-mode-eq0-clause-state
returns-then-mode-eq0-clause-state g c = λ a x y is.
    let core = c.args.core.now in
    let mode = core.plan.rule.mode in
    let s = the_state core.tables core.plan in
    sym (ap (λ (b : Bool). with_terms mode a (if b then x ∷ y ∷ [] else []) s) (offers-not mode (sym (ap (λ m. m.terms) c.mode.ensures) ∙ c.if-mode-eq0.true)))

pub sides_of-sides-requires-clause-equation : goal.sides_of-sides-requires-clause-equation
sides_of-sides-requires-clause-equation g c =
    let h = c.args.core.now.tables.basis in
    function-equated (bank_atom h.bank.terms h.lits c.args.lit.var.0) c.requires.shape

pub returns-clause-state : goal.returns-clause-state
returns-clause-state g c = λ a x y is.
    let core = c.args.core.now in
    let h = core.tables.basis in
    let mode = core.plan.rule.mode in
    let s = the_state core.tables core.plan in
    let t = bank_atom h.bank.terms h.lits c.args.lit.var.0 in
    let u = term_at h.bank.terms c.sides_of-sides.result.left in
    let v = term_at h.bank.terms c.sides_of-sides.result.right in
    let same = same_sides a (equation_type t) u v x y (sym c.sides_of-sides.ensures.equation ∙ is) in
    c.in_ok-add_terms.ensures.state
    ∙ ap (λ (b : SimpleType). with_term mode b v (with_term mode b u s)) (c.in_ok-ty.ensures ∙ ap equation_type is)
    ∙ ap₂ (λ (p r : Lambda). with_term mode a r (with_term mode a p s)) same.0 same.1
    ∙ sym (ap (λ (b : Bool). with_terms mode a (if b then x ∷ y ∷ [] else []) s) (offers-so mode (λ e. c.if-mode-eq0.false (ap (λ m. m.terms) c.mode.ensures ∙ e))))
