-- Which variables are found beside those of what was learned. Only private contracts use it.
use Rattle.std.specs.Prelude.{◌≡◌, ◌<◌, IsTrue, ℕ, Bool, List, [], ◌∷◌, Some, length, take, slice_get}
use Rattle.sat_base.specs.declared.literal.Var.{Var}
use Rattle.sat_log.specs.declared.chain.Premise.{Premise}
use Rattle.sat_propagate.specs.declared.propagator.Propagator.{Propagator}
use Rattle.sat_core.specs.Internal.Marks.{MarkState, is_marked}
use Rattle.sat_core.specs.Internal.Reasons.{IsReasonOf, IsAddedPair}

-- the found variables, or the others where none were found
abbrev pub found_or : List Var → List Var → List Var
found_or [] others = others
found_or (v ∷ found) others = v ∷ found

-- the variables that were met
abbrev pub met_ones : MarkState → List Var
met_ones marks = take marks.met marks.touched

-- a variable is marked, and an added clause of two literals made its literal true
pub record IsPaired (propagator : Propagator) (names : List Premise) (marks : MarkState) (v : Var) : Type 0 where
  pub marked : IsTrue (is_marked marks.marked v)
  pub at : ℕ
  pub reason : IsReasonOf propagator.trail v at
  pub pair : IsAddedPair propagator.clauses.items names at

-- such a variable was met
pub record HasPair (propagator : Propagator) (names : List Premise) (marks : MarkState) (v : Var) : Type 0 where
  pub place : ℕ
  pub met : slice_get (met_ones marks) place ≡ Some v
  pub paired : IsPaired propagator names marks v

-- each variable that was met has a mark here, of those with numbers below n
abbrev pub AreNoted : ℕ → MarkState → List Bool → Type 0
AreNoted n marks noted = (k : ℕ) (v : Var) → slice_get (met_ones marks) k ≡ Some v → v.0 < n → IsTrue (is_marked noted v)

-- where there is a pair, each variable that was met has a mark here
abbrev pub NotesMet : Propagator → List Premise → MarkState → List Bool → Type 0
NotesMet propagator names marks noted = (v : Var) → HasPair propagator names marks v → AreNoted (length propagator.trail.phases) marks noted
