-- Eta-long beta-normal forms by hereditary substitution (Watkins, Cervesato, Pfenning and Walker, A concurrent logical framework I,
-- 2002): applying a canonical function to a canonical argument gives a canonical term at once, by recursion on the type of the argument
-- and then on the term.
use Rattle.std.specs.Prelude.{ℕ, zero, suc, List, [], ◌∷◌, Option, Some, None, slice_get}
use Rattle.stt_core.specs.SimpleType.{SimpleType, base, arrow}
use Rattle.stt_core.specs.Lambda.{Lambda, bound, constant, lam, app}
use Rattle.stt_core.specs.Typing.{Scope, constant_type}
use Rattle.stt_core.specs.Lift.{lift}

-- The eta-long form of a head h of this type, or of a head with arguments: λ x1 .. xn. h (eta x1) .. (eta xn) for n arguments more.
abbrev pub eta : SimpleType → Lambda → Lambda
eta (base n) t = t
eta (arrow a b) t = lam a (eta b (app (lift zero t) (eta a (bound zero))))

-- A way to apply a term to an argument.
abbrev pub Way : Type 0
Way = Lambda → Lambda → Lambda

-- all but the first
abbrev pub later : {W : Type 0} → List W → List W
later [] = []
later (w ∷ ws) = ws

-- by the first way, or by a plain application where there is none
abbrev pub by_first : List Way → Way
by_first [] s u = app s u
by_first (w ∷ ws) s u = w s u

-- the ways where variable j is variable k, and else none
abbrev pub ways_at : {W : Type 0} → ℕ → ℕ → List W → List W
ways_at zero zero ways = ways
ways_at zero (suc j) ways = []
ways_at (suc k) zero ways = []
ways_at (suc k) (suc j) ways = ways_at k j ways

-- The ways in which a head with arguments takes its next arguments, once a term that takes its own by `ways` stands for variable k:
-- where that variable is the head, those that are left, and where it isn't, none.
abbrev pub ways_of : {W : Type 0} → List W → ℕ → Lambda → List W
ways_of ways k (bound j) = ways_at k j ways
ways_of ways k (constant c) = []
ways_of ways k (lam a s) = []
ways_of ways k (app s u) = later (ways_of ways k s)

-- What variable j becomes where r stands for variable k: r itself under the k binders that are passed, and a variable whose binder is
-- further out than that of k is lowered by one.
abbrev pub put : ℕ → Lambda → ℕ → Lambda
put zero r zero = r
put zero r (suc j) = bound j
put (suc k) r zero = bound zero
put (suc k) r (suc j) = lift zero (put k r j)

-- The term with r for variable k, where r takes its arguments by `ways`. The arguments of a head are replaced first; what the head
-- becomes is then applied to them one after the other.
abbrev pub replace : List Way → ℕ → Lambda → Lambda → Lambda
replace ways k r (bound j) = put k r j
replace ways k r (constant c) = constant c
replace ways k r (lam a s) = lam a (replace ways (suc k) r s)
replace ways k r (app s u) = by_first (ways_of ways k s) (replace ways k r s) (replace ways k r u)

-- a function applied to an argument that takes its own arguments by `ways`
abbrev pub apply_by : List Way → Way
apply_by ways (lam a s) r = replace ways zero r s
apply_by ways (bound k) r = app (bound k) r
apply_by ways (constant c) r = app (constant c) r
apply_by ways (app s u) r = app (app s u) r

-- the ways in which a canonical term of this type takes its arguments, first one first
abbrev pub ways : SimpleType → List Way
ways (base n) = []
ways (arrow a b) = apply_by (ways a) ∷ ways b

-- The normal form of a canonical function applied to a canonical argument: the argument stands for the outermost binder's variable.
abbrev pub apply : Lambda → Lambda → Lambda
apply (lam a s) u = replace (ways a) zero u s
apply (bound k) u = app (bound k) u
apply (constant c) u = app (constant c) u
apply (app s v) u = app (app s v) u

-- applied to one argument after the other
abbrev pub apply_each : Lambda → List Lambda → Lambda
apply_each t [] = t
apply_each t (u ∷ us) = apply_each (apply t u) us

-- the eta-long form of a head that has a type
abbrev pub eta_if : Option SimpleType → Lambda → Lambda
eta_if None t = t
eta_if (Some a) t = eta a t

-- The normal form of a typed term. `ctx` has the types of its free bound variables, innermost first.
abbrev pub normal_form : Scope → List SimpleType → Lambda → Lambda
normal_form scope ctx (bound k) = eta_if (slice_get ctx k) (bound k)
normal_form scope ctx (constant c) = eta_if (constant_type scope c) (constant c)
normal_form scope ctx (lam a s) = lam a (normal_form scope (a ∷ ctx) s)
normal_form scope ctx (app s u) = apply (normal_form scope ctx s) (normal_form scope ctx u)
