-- Free variables as heads: those that stand for a term, and distinct variables as their arguments (Miller, A logic programming language
-- with lambda-abstraction, function variables, and simple unification, 1991).
use Rattle.std.specs.Prelude.{ℕ, zero, suc, nat_eq, nat_lt, List, [], ◌∷◌, Option, Some, None, option_and_then, if◌then◌else◌}
use Rattle.std.specs.List.{list_any, list_all}
use Rattle.stt_core.specs.Lambda.{Lambda, bound, constant, lam, app}

-- the free variable that a variable under d binders is, unless it is of one of these
abbrev pub free_at : ℕ → ℕ → Option ℕ
free_at zero j = Some j
free_at (suc d) zero = None
free_at (suc d) (suc j) = free_at d j

-- the free variable at the head of a term under d binders
abbrev pub free_head : ℕ → Lambda → Option ℕ
free_head d (bound j) = free_at d j
free_head d (constant c) = None
free_head d (lam a s) = None
free_head d (app s u) = free_head d s

-- with a variable, where it is another one than these
abbrev pub with_variable : ℕ → List ℕ → Option (List ℕ)
with_variable i ys = if list_any (nat_eq i) ys then None else Some (i ∷ ys)

-- the arguments of a head, last one first, where they are distinct variables
abbrev pub variable_arguments : Lambda → Option (List ℕ)
variable_arguments (bound j) = Some []
variable_arguments (constant c) = Some []
variable_arguments (lam a s) = None
variable_arguments (app s (bound i)) = option_and_then (with_variable i) (variable_arguments s)
variable_arguments (app s (constant c)) = None
variable_arguments (app s (lam a u)) = None
variable_arguments (app s (app u w)) = None

-- these variables, where each is one of the d innermost
abbrev pub where_local : ℕ → List ℕ → Option (List ℕ)
where_local d ys = if list_all (λ y. nat_lt y d) ys then Some ys else None

-- The arguments of a head, last one first, where they are distinct variables of the d innermost binders. In a canonical term each of them
-- has a base type.
abbrev pub local_arguments : ℕ → Lambda → Option (List ℕ)
local_arguments d t = option_and_then (where_local d) (variable_arguments t)
