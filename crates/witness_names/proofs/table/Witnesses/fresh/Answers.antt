use Rattle.std.proofs.Common.{sym, ◌∙◌, ap, subst, nat_eq}
use Rattle.indexmap.specs.IndexSet.{insert_key}
use Rattle.witness_names.specs.Rows.{AreRows}
use Rattle.witness_names.proofs.RowLaws.{added_rows}
use Rattle.witness_names.proofs.table.Witnesses.fresh.Goals as goal

pub returns-clause-rows : goal.returns-clause-rows
returns-clause-rows c =
    let b = c.args.bank.now in
    subst (AreRows b) (sym (c.in_ok-number.ensures.keys ∙ ap (λ ks. insert_key nat_eq ks c.args.predicate) c.self.view_is))
    (added_rows b c.args.self.now c.args.predicate (λ i j h g. (c.equal_ids_for_equal_terms.ensures i j h g).1) c.requires.within c.requires.rows c.requires.predicate)
