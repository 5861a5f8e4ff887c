-- What of a node goes into its hash.
use Rattle.std.specs.Prelude.{ℕ, ◌+◌, ◌*◌, ◌%◌, ◌^◌, fold}
use Rattle.std.specs.Hash as fed
use Rattle.std.specs.Hash.{HashWrites}
use Rattle.stt_core.specs.SimpleType.{SimpleType, base, arrow}
use Rattle.stt_core.specs.Lambda.{Constant, name, witness, falsity, negation, implication, all, equality, choice, description, Lambda, bound, constant, lam, app}
use Rattle.term_bank.specs.Shape.{Shape, abstraction, spine}

-- A number of 64 bits from two others. That a number times one more than twice it is a permutation is from RC6 (Rivest, Robshaw, Sidney,
-- Yin, The RC6 block cipher, 1998).
abbrev pub stirred : ℕ → ℕ
stirred z = (z * ((z * 2) % 2 ^ 64 + 1) % 2 ^ 64) % 2 ^ 64

abbrev pub mixed : ℕ → ℕ → ℕ
mixed x y = stirred ((((x * 11400714819323198485) % 2 ^ 64 + y) % 2 ^ 64 + 1) % 2 ^ 64)

-- a number of 64 bits for a type
abbrev pub type_number : SimpleType → ℕ
type_number (base n) = mixed 0 n
type_number (arrow a b) = mixed (type_number a) (type_number b)

abbrev pub constant_number : Constant → ℕ
constant_number (name k) = mixed 0 k
constant_number (witness k) = mixed 1 k
constant_number falsity = 2
constant_number negation = 3
constant_number implication = 4
constant_number (all a) = mixed 5 (type_number a)
constant_number (equality a) = mixed 6 (type_number a)
constant_number (choice a) = mixed 7 (type_number a)
constant_number (description a) = mixed 8 (type_number a)

-- .. for a head
abbrev pub head_number : Lambda → ℕ
head_number (bound k) = mixed 9 k
head_number (constant c) = constant_number c
head_number (lam a s) = 0
head_number (app s u) = 0

abbrev pub head_writes : Lambda → HashWrites
head_writes h = fed.u64 (head_number h)

-- .. for what stands at a root
abbrev pub shape_number : Shape → ℕ
shape_number (abstraction a i) = mixed (mixed 10 (type_number a)) i
shape_number (spine h is) = fold mixed (head_number h) is

abbrev pub shape_writes : Shape → HashWrites
shape_writes s = fed.u64 (shape_number s)
