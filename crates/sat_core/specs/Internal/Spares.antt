-- Of which variables it is found out whether their literals follow from others. Only private contracts use it.
use Rattle.std.specs.Prelude.{◌≡◌, ◌<◌, ◌++◌, ℕ, IsTrue, List, Some, map, slice_get}
use Rattle.std.specs.List.{Contains}
use Rattle.sat_base.specs.declared.literal.Var.{Var}
use Rattle.sat_base.specs.Literal.{mentions_variable}
use Rattle.sat_propagate.specs.Internal.Trail.{TrailState, literals}
use Rattle.sat_propagate.specs.declared.trail.Step.{Step}
use Rattle.sat_core.specs.Internal.Marks.{MarkState, is_marked}
use Rattle.sat_core.specs.Internal.Sides.{met_ones}
use Rattle.sat_core.specs.declared.spares.Visit.{Visit}

-- the variables that are judged, and those whose reasons are read
abbrev pub held : List Var → List Visit → List Var
held judged visits = judged ++ map (λ visit. visit.var) visits

-- each of some variables is judged
abbrev pub AreJudged : List Var → List Var → Type 0
AreJudged vars judged = (v : Var) → Contains vars v → Contains judged v

-- a variable is on the trail, before this place
pub record StandsBefore (trail : TrailState) (start : ℕ) (v : Var) : Type 0 where
  pub on_trail : IsTrue (mentions_variable (literals trail.steps) v)
  pub before : (place : ℕ) (step : Step) → slice_get trail.steps place ≡ Some step → step.literal.var ≡ v → place < start

-- each variable that was met, is marked and stands before this place is judged
abbrev pub JudgesMet : TrailState → MarkState → ℕ → List Var → Type 0
JudgesMet trail marks start judged =
    (k : ℕ) (v : Var)
    → slice_get (met_ones marks) k ≡ Some v
    → IsTrue (is_marked marks.marked v)
    → StandsBefore trail start v
    → Contains judged v
