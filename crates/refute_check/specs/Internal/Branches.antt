-- Branches as sets of numbers.
use Rattle.std.specs.Prelude.{◌≡◌, ℕ, nat_eq, Bool, true, false, List, [], ◌∷◌, ◌++◌, Some, IsTrue, Contains}
use Rattle.std.specs.List.{list_any}
use Rattle.indexmap.specs.IndexSet.{contains}
use Rattle.stt_core.specs.Lambda.{Lambda}
use Rattle.tableau_calculus.specs.Literals.{Literal}
use Rattle.tableau_calculus.specs.declared.refutation.Line.{Line}
use Rattle.refute_check.specs.Internal.Numbers.{number_in}
use Rattle.refute_check.specs.declared.branch.Branch.{Branch}
use Rattle.refute_check.specs.declared.branch.LineBranch.{LineBranch}

-- whether the set has the literal of this sign whose atom has this number
abbrev pub branch_has : Branch → Bool → ℕ → Bool
branch_has b true k = contains nat_eq b.positive k
branch_has b false k = contains nat_eq b.negative k

-- whether the line's branch has the literal of this sign whose atom has this number
abbrev pub line_has : LineBranch → Bool → ℕ → Bool
line_has b true k = list_any (nat_eq k) b.positive.items
line_has b false k = list_any (nat_eq k) b.negative.items

-- one of the literals has this sign, and its atom this number
pub record IsLiteralOf (terms : List Lambda) (ls : List Literal) (sign : Bool) (k : ℕ) : Type 0 where
  pub atom : Lambda
  pub numbered : number_in terms atom ≡ Some k
  pub among : Contains ls (record { positive = sign; atom = atom })

-- the test passes the literals, as far as their atoms have numbers
pub record RepresentsBy (terms : List Lambda) (ls : List Literal) (has : Bool → ℕ → Bool) : Type 0 where
  pub sound : (sign : Bool) (k : ℕ) → IsTrue (has sign k) → IsLiteralOf terms ls sign k
  pub whole : (sign : Bool) (k : ℕ) → IsLiteralOf terms ls sign k → IsTrue (has sign k)

-- the set has the literals
abbrev pub Represents : List Lambda → List Literal → Branch → Type 0
Represents terms ls b = RepresentsBy terms ls (branch_has b)

-- the atom of each literal has a number
abbrev pub AreNumberedBranch : List Lambda → List Literal → Type 0
AreNumberedBranch terms ls = (l : Literal) → Contains ls l → (k : ℕ) × (number_in terms l.atom ≡ Some k)

-- the terms after are those before and some more
abbrev pub Grow : List Lambda → List Lambda → Type 0
Grow before after = (more : List Lambda) × (after ≡ before ++ more)

-- the branches are those of the lines
abbrev pub AreBranches : List Lambda → List Line → List LineBranch → Type 0
AreBranches terms [] [] = Unit {0}
AreBranches terms [] (b ∷ bs) = ⊥
AreBranches terms (line ∷ lines) [] = ⊥
AreBranches terms (line ∷ lines) (b ∷ bs) =
    AreNumberedBranch terms line.branch × RepresentsBy terms line.branch (line_has b) × AreBranches terms lines bs
