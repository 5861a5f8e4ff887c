-- A literal as a number: twice its variable's, and one more where it is positive.
use Rattle.std.specs.Prelude.{ℕ, ◌+◌, ◌*◌, ◌/◌, ◌%◌, ◌==◌, if◌then◌else◌}
use Rattle.sat_base.specs.declared.literal.SatLit.{SatLit}

abbrev pub packed : SatLit → ℕ
packed l = l.var.0 * 2 + (if l.positive then 1 else 0)

abbrev pub unpacked : ℕ → SatLit
unpacked n = record { var = record { 0 = n / 2 }; positive = n % 2 == 1 }
