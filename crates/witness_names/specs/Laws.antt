-- What witness tables keep.
use Rattle.std.specs.Prelude.{◌≡◌, ℕ, List}
use Rattle.term_bank.specs.Content.{Content, Grows}
use Rattle.witness_names.specs.Rows.{rows_of, AreRows}

-- where the bank grows, predicates have the same rows as before, and these stay a witness table
abbrev pub RowsStay : Type 0
RowsStay =
    (old new : Content)
    → Grows old new
    → (ids : List ℕ)
    → AreRows old ids
    → AreRows new ids × (rows_of new.terms ids ≡ rows_of old.terms ids)
