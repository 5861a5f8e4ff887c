-- How many binders a term lacks.
use Rattle.std.specs.Prelude.{ℕ, suc, ◌-◌, max}
use Rattle.stt_core.specs.Lambda.{Lambda, bound, constant, lam, app}

-- how many binders more bind every variable of a term
abbrev pub missing_binders : Lambda → ℕ
missing_binders (bound j) = suc j
missing_binders (constant c) = 0
missing_binders (lam a s) = missing_binders s - 1
missing_binders (app s u) = max (missing_binders s) (missing_binders u)
