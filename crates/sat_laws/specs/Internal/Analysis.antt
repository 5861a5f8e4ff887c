-- What the analysis of a conflict keeps of the clause that it has made so far. Only proofs and private contracts use it.
use Rattle.std.specs.Prelude.{◌+◌, Bool, true, false, IsTrue, ℕ, List, [], ◌∷◌, take}
use Rattle.sat_base.specs.declared.literal.SatLit.{SatLit}
use Rattle.sat_base.specs.Literal.{negated, holds}

-- the negation of each literal of the clause is among the first literals of the trail
abbrev pub IsFalseBefore : ℕ → List SatLit → List SatLit → Type 0
IsFalseBefore place trail clause = (l : SatLit) → IsTrue (holds clause l) → IsTrue (holds (take place trail) (negated l))

-- 1 for a test that passes
abbrev pub one_if : Bool → ℕ
one_if true = 1
one_if false = 0

-- how many literals of the list pass a test
abbrev pub how_many : (SatLit → Bool) → List SatLit → ℕ
how_many p [] = 0
how_many p (l ∷ literals) = one_if (p l) + how_many p literals
