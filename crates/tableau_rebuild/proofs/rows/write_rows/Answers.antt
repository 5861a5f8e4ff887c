use Rattle.std.proofs.Common.{option_map, ap, ◌∙◌}
use Rattle.std.proofs.lemmas.Option.{slice_get-map}
use Rattle.stt_core.proofs.ListLaws.{copy_more}
use Rattle.term_bank.specs.Terms.{term_at}
use Rattle.witness_names.specs.Rows.{row_of, rows_of}
use Rattle.tableau_rebuild.proofs.rows.write_rows.Goals as goal

pub loop-w-preserved : goal.loop-w-preserved
loop-w-preserved c =
    let terms = c.args.bank.now.terms in
    let ids = c.args.witnesses.now in
    let at = slice_get-map (λ id. row_of (term_at terms id)) ids c.loop-w.w ∙ ap (option_map (λ id. row_of (term_at terms id))) c.predicate.ensures in
    record {
      rows = copy_more (rows_of terms ids) c.loop-w.w (row_of (term_at terms c.predicate.result)) c.loop-w.rows c.push.new.self c.in_ok-row.row at c.loop-w.invariant.rows c.in_ok-row.ensures.row c.in_ok-push.ensures.ok;
      known = c.in_ok-row.ensures.known;
    }
