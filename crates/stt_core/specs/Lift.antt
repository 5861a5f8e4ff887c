-- Terms under more binders (de Bruijn 1972).
use Rattle.std.specs.Prelude.{ℕ, zero, suc}
use Rattle.stt_core.specs.Lambda.{Lambda, bound, constant, lam, app}

-- a variable where a binder is added behind the k innermost ones
abbrev pub raised : ℕ → ℕ → ℕ
raised zero j = suc j
raised (suc k) zero = zero
raised (suc k) (suc j) = suc (raised k j)

-- a term where a binder is added behind the k innermost ones
abbrev pub lift : ℕ → Lambda → Lambda
lift k (bound j) = bound (raised k j)
lift k (constant c) = constant c
lift k (lam a s) = lam a (lift (suc k) s)
lift k (app s u) = app (lift k s) (lift k u)

-- the same with n binders
abbrev pub lift_by : ℕ → ℕ → Lambda → Lambda
lift_by zero k t = t
lift_by (suc n) k t = lift k (lift_by n k t)
