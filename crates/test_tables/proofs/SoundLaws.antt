-- Tables that agree.
use Rattle.std.proofs.Common.{◌≡◌, ◌<◌, [], ◌++◌, length, sym, ap}
use Rattle.std.proofs.lemmas.List.Elements.{All-nil}
use Rattle.literal_map.proofs.StayLaws.{atoms_stay}
use Rattle.witness_names.proofs.StayLaws.{rows_grown}
use Rattle.witness_names.specs.Rows.{AreRows}
use Rattle.bank_normal.specs.Right.{IsRightNormaliser}
use Rattle.bank_normal.specs.declared.normaliser.Normaliser.{Normaliser}
use Rattle.term_bank.specs.Content.{Content, Grows}
use Rattle.test_tables.specs.Sound.{AreSoundTables}
use Rattle.test_tables.specs.declared.tables.Tables.{Tables}

pub no_rows : (b : Content) → b.witnesses ≡ [] → AreRows b []
no_rows b e = record { within = All-nil (λ id. id < length b.terms); table = tt; further = []; types = sym (ap (λ ws. ws ++ []) e) }

-- where the bank grows, the tables still agree
pub grown_sound : (t : Tables) (b : Content) (n : Normaliser) → Grows t.bank b → IsRightNormaliser n b → AreSoundTables t → AreSoundTables (record t { bank = b; normal = n })
grown_sound t b n g right h = record { atoms = atoms_stay t.bank b g t.lits h.atoms; memo = right; rows = rows_grown t.bank b g t.witnesses h.rows }
