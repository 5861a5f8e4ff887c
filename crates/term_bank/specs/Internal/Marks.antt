-- The greatest witness of a term.
use Rattle.std.specs.Prelude.{ℕ, max, Option, Some, None}
use Rattle.stt_core.specs.Lambda.{Constant, name, witness, falsity, negation, implication, all, equality, choice, description, Lambda, bound, constant, lam, app}

-- the greater of two numbers, each of which may be missing
abbrev pub greater : Option ℕ → Option ℕ → Option ℕ
greater None n = n
greater (Some m) None = Some m
greater (Some m) (Some n) = Some (max m n)

abbrev pub witness_number : Constant → Option ℕ
witness_number (name k) = None
witness_number (witness k) = Some k
witness_number falsity = None
witness_number negation = None
witness_number implication = None
witness_number (all a) = None
witness_number (equality a) = None
witness_number (choice a) = None
witness_number (description a) = None

-- the greatest witness that occurs in a term, where one does
abbrev pub greatest_witness : Lambda → Option ℕ
greatest_witness (bound k) = None
greatest_witness (constant c) = witness_number c
greatest_witness (lam a s) = greatest_witness s
greatest_witness (app s u) = greater (greatest_witness s) (greatest_witness u)
