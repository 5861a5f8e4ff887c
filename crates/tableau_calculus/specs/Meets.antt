-- When a model meets literals and branches.
use Rattle.std.specs.Prelude.{◌≡◌, ℕ, Bool, true, false, List, [], ◌∷◌, ◌⊎◌}
use Rattle.stt_core.specs.Typing.{Scope}
use Rattle.stt_core.specs.Meaning.{Model, value}
use Rattle.tableau_calculus.specs.Literals.{Literal}

-- the value of what holds, and of what doesn't
abbrev pub truth : Bool → ℕ
truth true = 1
truth false = 0

abbrev pub MeetsLiteral : Scope → Model → Literal → Type 0
MeetsLiteral scope m l = value scope m [] [] l.atom ≡ truth l.positive

-- the model meets each literal of the branch
abbrev pub MeetsBranch : Scope → Model → List Literal → Type 0
MeetsBranch scope m [] = Unit {0}
MeetsBranch scope m (l ∷ branch) = MeetsLiteral scope m l × MeetsBranch scope m branch

-- the model meets each literal of one of the alternatives
abbrev pub MeetsOne : Scope → Model → List (List Literal) → Type 0
MeetsOne scope m [] = ⊥
MeetsOne scope m (a ∷ alternatives) = MeetsBranch scope m a ⊎ MeetsOne scope m alternatives
