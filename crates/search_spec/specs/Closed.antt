-- Whether variables are free in a term.
use Rattle.std.specs.Prelude.{ℕ, suc, nat_lt, Bool, true, ◌&&◌}
use Rattle.stt_core.specs.Lambda.{Lambda, bound, constant, lam, app}

-- whether the term's own binders and so many around it bind each of its variables
abbrev pub is_bound_by : ℕ → Lambda → Bool
is_bound_by n (bound k) = nat_lt k n
is_bound_by n (constant c) = true
is_bound_by n (lam a s) = is_bound_by (suc n) s
is_bound_by n (app s u) = is_bound_by n s && is_bound_by n u

-- whether no variable is free in the term
abbrev pub is_closed : Lambda → Bool
is_closed t = is_bound_by 0 t
