-- Simple types (Church, A formulation of the simple theory of types, 1940).
use Rattle.std.specs.Prelude.{ℕ, ◌+◌, Bool, false, ◌&&◌, nat_lt, nat_eq}

-- A base type by its number, or the functions from the first type to the second. Number 0 is the type of formulas, `$o`,
-- number 1 that of individuals, `$i`, and a signature's own base types follow from number 2 on.
pub data SimpleType : Type 0 where
  base : ℕ → SimpleType
  arrow : SimpleType → SimpleType → SimpleType

-- the type of formulas
abbrev pub formula : SimpleType
formula = base 0

-- the type of predicates on a type
abbrev pub predicate : SimpleType → SimpleType
predicate a = arrow a formula

-- whether a type is over a signature with so many base types of its own
abbrev pub is_declared : ℕ → SimpleType → Bool
is_declared bases (base n) = nat_lt n (bases + 2)
is_declared bases (arrow a b) = is_declared bases a && is_declared bases b

-- whether two types are the same
abbrev pub same_type : SimpleType → SimpleType → Bool
same_type (base m) (base n) = nat_eq m n
same_type (base m) (arrow c d) = false
same_type (arrow a b) (base n) = false
same_type (arrow a b) (arrow c d) = same_type a c && same_type b d

-- the number of the base type that a function of this type gives once it has all its arguments
abbrev pub target : SimpleType → ℕ
target (base n) = n
target (arrow a b) = target b
