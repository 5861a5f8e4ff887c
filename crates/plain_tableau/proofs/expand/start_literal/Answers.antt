use Rattle.std.proofs.Common.{◌≡◌, [], ◌∷◌, List, Some, length, get_or, sym, ap, ◌∙◌, subst, arith}
use Rattle.std.proofs.lemmas.Option.{slice_get_within, same_Some}
use Rattle.sat_base.specs.declared.literal.SatLit.{SatLit}
use Rattle.tableau_clauses.specs.Table.{the_clauses}
use Rattle.tableau_rebuild.specs.Tables.{no_literal}
use Rattle.plain_tableau.proofs.expand.start_literal.Goals as goal

pub clause-requires : goal.clause-requires
clause-requires c = slice_get_within (the_clauses c.args.steps.now) c.args.n (c.requires.0 ∷ []) c.requires.1

pub bounds-as_slice-0 : goal.bounds-as_slice-0
bounds-as_slice-0 c =
    let unit : c.in_ok-clause.clause ≡ c.requires.0 ∷ [] = same_Some _ _ (sym c.in_ok-clause.ensures ∙ c.requires.1) in
    let count : length c.as_slice.result.now ≡ 1 = ap length c.as_slice.ensures ∙ ap length unit in
    omega (arith, count)

pub returns : goal.returns
returns c =
    let unit : c.in_ok-clause.clause ≡ c.requires.0 ∷ [] = same_Some _ _ (sym c.in_ok-clause.ensures ∙ c.requires.1) in
    let first : get_or c.as_slice.result.now 0 no_literal ≡ c.requires.0 = ap (λ (ls : List SatLit). get_or ls 0 no_literal) (c.as_slice.ensures ∙ unit) in
    c.requires.1 ∙ ap (λ (l : SatLit). Some (l ∷ [])) (sym first)
