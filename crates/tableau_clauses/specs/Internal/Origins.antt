-- Origins as numbers.
use Rattle.std.specs.Prelude.{ℕ, ◌-◌, ◌==◌, if◌then◌else◌}
use Rattle.tableau_clauses.specs.declared.origin.Origin.{Origin}
use Rattle.tableau_clauses.specs.declared.origin.Origin.TheVariants.{Start, Instance as From}

abbrev pub origin_by : ℕ → Origin
origin_by n = if n == 0 then Start else From (n - 1)
