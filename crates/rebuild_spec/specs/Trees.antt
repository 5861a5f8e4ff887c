-- Lines with those that they rest on.
use Rattle.std.specs.Prelude.{ℕ, nat_eq, ◌&&◌, Bool, false, List}
use Rattle.tableau_calculus.specs.Rules.{PlainRule}
use Rattle.tableau_calculus.specs.declared.refutation.Child.{Child}
use Rattle.sat_base.specs.declared.literal.Var.{Var}
use Rattle.sat_base.specs.declared.literal.SatLit.{SatLit}
use Rattle.sat_log.specs.Resolution.{resolvent}

-- A place in the derivations: a clause by its number, what the chain of a result gives after so many of its steps, or a result.
pub data Place : Type 0 where
  at_clause : ℕ → Place
  at_step : ℕ → ℕ → Place
  at_result : ℕ → Place

abbrev pub same_place : Place → Place → Bool
same_place (at_clause m) (at_clause n) = nat_eq m n
same_place (at_step m j) (at_step n k) = nat_eq m n && nat_eq j k
same_place (at_result m) (at_result n) = nat_eq m n
same_place p q = false

-- A line that was made at a place: one that rests on no other, with its branch, its rule and its closed children, or a cut on a variable,
-- with the line for where the variable holds and the one for where it doesn't.
pub data Tree : Type 0 where
  leaf : Place → List SatLit → PlainRule → List Child → Tree
  cut : Place → Var → Tree → Tree → Tree

abbrev pub made_at : Tree → Place
made_at (leaf p branch rule children) = p
made_at (cut p v t u) = p

-- The branch that a line closes. That of a cut is those of its children, each without the literal that the cut adds to it: their resolvent.
abbrev pub branch : Tree → List SatLit
branch (leaf p ls rule children) = ls
branch (cut p v t u) = resolvent v (branch t) (branch u)

abbrev pub same_line : Tree → Tree → Bool
same_line t u = same_place (made_at t) (made_at u)
