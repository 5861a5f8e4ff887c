-- Tables of numbers of literals: an entry for each variable, with a number for each of its two literals.
use Rattle.std.specs.Prelude.{◌≡◌, ℕ, Bool, if◌then◌else◌, List, Option, None, slice_index_or}
use Rattle.sat_base.specs.declared.literal.SatLit.{SatLit}
use Rattle.sat_base.specs.Literal.{same_literal}
use Rattle.sat_log.specs.declared.stamps.Stamps.{Stamps}

-- no number for either literal on a variable
abbrev pub no_stamps : Stamps
no_stamps = record { positive = None; negative = None }

-- the number of the literal on a variable with this sign
abbrev pub stamp_in : Stamps → Bool → Option ℕ
stamp_in stamps sign = if sign then stamps.positive else stamps.negative

-- the number that a table has for a literal
abbrev pub stamp_of : List Stamps → SatLit → Option ℕ
stamp_of table l = stamp_in (slice_index_or table l.var.0 no_stamps) l.positive

-- the new table has this number for the literal, and all others as the old one has them
abbrev pub Updates : List Stamps → List Stamps → SatLit → Option ℕ → Type 0
Updates old new l stamp = (m : SatLit) → stamp_of new m ≡ (if same_literal l m then stamp else stamp_of old m)
