-- What occurs in a term.
use Rattle.std.specs.Prelude.{◌≡◌, ℕ, suc, ◌⊎◌}
use Rattle.stt_core.specs.Lambda.{Constant, Lambda, bound, constant, lam, app}

-- a constant occurs in a term
abbrev pub Occurs : Constant → Lambda → Type 0
Occurs c (bound j) = ⊥
Occurs c (constant d) = d ≡ c
Occurs c (lam a s) = Occurs c s
Occurs c (app s u) = Occurs c s ⊎ Occurs c u

-- the variable whose binder lies k binders outside the term occurs in it
abbrev pub IsFree : ℕ → Lambda → Type 0
IsFree k (bound j) = j ≡ k
IsFree k (constant c) = ⊥
IsFree k (lam a s) = IsFree (suc k) s
IsFree k (app s u) = IsFree k s ⊎ IsFree k u

-- no variable is free in the term
abbrev pub IsClosed : Lambda → Type 0
IsClosed t = (k : ℕ) → IsFree k t → ⊥
