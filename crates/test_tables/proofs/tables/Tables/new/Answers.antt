use Rattle.std.proofs.Common.{sym, ap, subst}
use Rattle.std.specs.Prelude.{All}
use Rattle.std.proofs.lemmas.List.Elements.{All-nil}
use Rattle.term_bank.specs.Content.{Content}
use Rattle.literal_map.specs.Atoms.{IsAtom}
use Rattle.witness_names.specs.Rows.{AreRows}
use Rattle.test_tables.proofs.SoundLaws.{no_rows}
use Rattle.test_tables.proofs.tables.Tables.new.Goals as goal

pub returns : goal.returns
returns c = record {
  atoms = subst (All (IsAtom c.new.result)) (sym c.new-3.ensures) (All-nil (IsAtom c.new.result));
  memo = c.new-2.ensures c.new.result;
  rows = subst (AreRows c.new.result) (sym c.new-4.ensures) (no_rows c.new.result (ap (λ (b : Content). b.witnesses) c.new.ensures));
}
