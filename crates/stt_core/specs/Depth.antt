-- How deep terms nest.
use Rattle.std.specs.Prelude.{ℕ, suc, max}
use Rattle.stt_core.specs.Lambda.{Lambda, bound, constant, lam, app}

-- The depth of a canonical term: its binders, and one more than the greatest depth of an argument, where it has arguments.
abbrev pub depth : Lambda → ℕ
depth (bound k) = 0
depth (constant c) = 0
depth (lam a s) = suc (depth s)
depth (app s u) = max (depth s) (suc (depth u))
