-- Literals by the numbers of their atoms.
use Rattle.std.specs.Prelude.{◌≡◌, ◌<◌, ℕ, List, length, slice_index_or}
use Rattle.stt_core.specs.Lambda.{Lambda, constant, falsity}
use Rattle.tableau_calculus.specs.Literals.{Literal}
use Rattle.sat_base.specs.declared.literal.SatLit.{SatLit}
use Rattle.sat_base.specs.Literal.{negated, same_literal}
use Rattle.tableau_calculus.specs.Kinds.{Kind}

-- propositional literals
abbrev pub numbers : Kind SatLit
numbers = record { opposite = negated; same = same_literal }

-- the atom of a number
abbrev pub atom_at : List Lambda → ℕ → Lambda
atom_at atoms n = slice_index_or atoms n (constant falsity)

-- the literal that a number with a sign stands for
abbrev pub literal_at : List Lambda → SatLit → Literal
literal_at atoms l = record { positive = l.positive; atom = atom_at atoms l.var.0 }

-- the literal's number is one of the atoms
abbrev pub IsNumber : List Lambda → SatLit → Type 0
IsNumber atoms l = l.var.0 < length atoms

-- no two numbers have the same atom
abbrev pub AreApart : List Lambda → Type 0
AreApart atoms = (i j : ℕ) → i < length atoms → j < length atoms → atom_at atoms i ≡ atom_at atoms j → i ≡ j
