use Rattle.std.proofs.Common.{slice_index_or, arith}
use Rattle.std.proofs.lemmas.Option.{slice_get-get_or}
use Rattle.tableau_rebuild.specs.Tables.{no_literal, atoms_at}
use Rattle.tableau_rebuild.proofs.NeededLaws.{branch_more}
use Rattle.tableau_rebuild.proofs.needed.rows_for_branch.Goals as goal

pub loop-i-preserved : goal.loop-i-preserved
loop-i-preserved c =
    let branch = c.args.branch.now in
    let i = c.loop-i.i in
    let within = c.loop-i-test.true in
    branch_more (atoms_at c.args.bank.now.terms c.args.atoms.now) branch i (slice_index_or branch i no_literal) c.loop-i.rows c.rows_for_literal.result c.max-rows.result (slice_get-get_or branch i no_literal (omega (arith, within))) c.loop-i.invariant c.rows_for_literal.ensures c.max-rows.ensures
