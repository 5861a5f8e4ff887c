use Rattle.std.proofs.Common.{sym, ◌∙◌}
use Rattle.tableau_rebuild.proofs.NeededLaws.{row_found, row_missing}
use Rattle.tableau_rebuild.proofs.needed.row_of.Goals as goal

pub returns-in-Some-clause-place : goal.returns-in-Some-clause-place
returns-in-Some-clause-place c =
    row_found c.args.bank.now c.equal_ids_for_equal_terms.ensures c.args.predicate c.requires.within c.args.witnesses.now c.requires.rows.within c.in-Some.w (sym c.in-Some.ensures)

pub returns-in-None-clause-place : goal.returns-in-None-clause-place
returns-in-None-clause-place c =
    c.len.ensures ∙ row_missing c.args.bank.now c.equal_ids_for_equal_terms.ensures c.args.predicate c.requires.within c.args.witnesses.now c.requires.rows.within (sym c.in-None.ensures)
