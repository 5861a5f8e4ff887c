-- Functions that are eta-long forms of heads.
use Rattle.std.specs.Prelude.{◌≡◌, ℕ, ◌+◌, List, length, take}
use Rattle.stt_core.specs.SimpleType.{SimpleType, base, arrow}
use Rattle.stt_core.specs.Lambda.{Lambda, bound, constant, lam, app, applied}
use Rattle.bank_normal.specs.Internal.LiftedHeads.{arrow_count, eta_lifted}

-- the types of a term's outer binders, as those of the arguments of a function
abbrev pub binder_types : Lambda → SimpleType
binder_types (bound k) = base 0
binder_types (constant c) = base 0
binder_types (lam a s) = arrow a (binder_types s)
binder_types (app s u) = base 0

-- t is the eta-long form of the head h with the first n of the arguments, as these stand under the binders of that form
pub record IsFormOf (t h : Lambda) (us : List Lambda) (n : ℕ) : Type 0 where
  pub is : t ≡ eta_lifted (binder_types t) (applied h (take n us))
  pub count : arrow_count (binder_types t) + n ≡ length us
