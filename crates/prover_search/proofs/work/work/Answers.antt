use Rattle.std.proofs.Common.{false, [], sym, ◌∙◌}
use Rattle.std.proofs.lemmas.Bool.{and_parts, not-true}
use Rattle.stt_core.specs.Lambda.{eq}
use Rattle.stt_core.proofs.SameTerms.{same_term-refl}
use Rattle.tableau_calculus.specs.Literals.{Literal, minus}
use Rattle.literal_map.specs.Atoms.{bank_literal}
use Rattle.prover_state.specs.Internal.Standing.{setting_by, the_state}
use Rattle.prover_search.proofs.ShapedLaws.{equal-sides}
use Rattle.prover_search.proofs.AloneUses.{refl-takes}
use Rattle.prover_search.proofs.WorkLaws.{literal-is, worked-alone, worked-itself}
use Rattle.prover_search.proofs.AdvanceLaws.{alone-advances}
use Rattle.prover_search.proofs.work.work.Goals as goal

pub apply_alone-requires-clause-fits : goal.apply_alone-requires-clause-fits
apply_alone-requires-clause-fits g c =
    let core = c.args.core.now in
    let basis = core.tables.basis in
    let lit = c.args.lit in
    let l : Literal = bank_literal basis.bank.terms basis.lits lit in
    let p = and_parts _ _ (sym c.denies_itself.ensures ∙ c.if-denies_itself.true) in
    let k = equal-sides l.atom p.1 in
    ([], refl-takes basis lit k.0 k.1 (literal-is l false (eq k.0 k.1 k.1) (not-true lit.positive p.0) k.2))

pub returns-then-denies_itself-clause-state : goal.returns-then-denies_itself-clause-state
returns-then-denies_itself-clause-state g c =
    let core = c.args.core.now in
    let basis = core.tables.basis in
    let lit = c.args.lit in
    let l : Literal = bank_literal basis.bank.terms basis.lits lit in
    let setting = setting_by core.tables core.plan in
    let s = the_state core.tables core.plan in
    let p = and_parts _ _ (sym c.denies_itself.ensures ∙ c.if-denies_itself.true) in
    let k = equal-sides l.atom p.1 in
    let e = literal-is l false (eq k.0 k.1 k.1) (not-true lit.positive p.0) k.2 in
    c.in_ok-apply_alone.ensures.state [] (refl-takes basis lit k.0 k.1 e) ∙ worked-alone setting s l (minus (eq k.0 k.1 k.1)) [] e (worked-itself setting s k.0 k.1 (same_term-refl k.1))

pub returns-then-denies_itself-clause-advances : goal.returns-then-denies_itself-clause-advances
returns-then-denies_itself-clause-advances g c = alone-advances c.args.core.now c.apply_alone.new.core c.in_ok-apply_alone.ensures.advances
