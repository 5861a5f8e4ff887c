use Rattle.std.proofs.Common.{◌≡◌, take}
use Rattle.witness_names.specs.Rows.{rows_of}
use Rattle.refute_share.specs.KnownTerms.{KnowsTerms}
use Rattle.tableau_rebuild.proofs.rows.write_rows.Given as goal

abbrev pub invariant-loop-w : goal.invariant-loop-w
invariant-loop-w l = record {
  rows : l.rows ≡ take l.w (rows_of l.bank.terms l.witnesses);
  known : KnowsTerms l.bank.terms l.terms;
}
