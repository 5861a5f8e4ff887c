-- When tables agree.
use Rattle.std.specs.Prelude.{All}
use Rattle.bank_normal.specs.Right.{IsRightNormaliser}
use Rattle.literal_map.specs.Atoms.{IsAtom}
use Rattle.witness_names.specs.Rows.{AreRows}
use Rattle.test_tables.specs.declared.tables.Tables.{Tables}

-- the atoms, what the normaliser knows, and the rows are right over the bank
pub record AreSoundTables (t : Tables) : Type 0 where
  pub atoms : All (IsAtom t.bank) t.lits
  pub memo : IsRightNormaliser t.normal t.bank
  pub rows : AreRows t.bank t.witnesses
