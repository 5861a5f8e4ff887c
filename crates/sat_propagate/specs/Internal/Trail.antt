-- What contracts see of a trail, and what is true of each trail.
use Rattle.std.specs.Prelude.{◌≡◌, ◌<◌, ◌*◌, if◌then◌else◌, ℕ, Bool, false, ◌&&◌, IsTrue, List, Some, map, length, slice_get, slice_index_or}
use Rattle.std.specs.Bool.{beq}
use Rattle.std.specs.List.{All}
use Rattle.sat_base.specs.declared.literal.Var.{Var}
use Rattle.sat_base.specs.declared.literal.SatLit.{SatLit}
use Rattle.sat_base.specs.Literal.{negated, same_literal, holds, HoldsNoVariableTwice, IsOver}
use Rattle.sat_laws.specs.Internal.Packing.{packed}
use Rattle.sat_propagate.specs.declared.trail.Step.{Step}
use Rattle.sat_propagate.specs.declared.trail.Cell.{Cell}

-- the true literals with their reasons, in order; how many there were at each decision; the last value of each variable
pub record TrailState : Type 0 where
  pub steps : List Step
  pub starts : List ℕ
  pub phases : List Bool

-- the literals of some steps
abbrev pub literals : List Step → List SatLit
literals steps = map (λ step. step.literal) steps

abbrev pub open_cell : Cell
open_cell = record { assigned = false; positive = false; place = 0 }

-- what a table says of a variable
abbrev pub cell_of : List Cell → Var → Cell
cell_of cells v = slice_index_or cells v.0 open_cell

-- whether a table says that a literal is true
abbrev pub is_true_in : List Cell → SatLit → Bool
is_true_in cells l = (cell_of cells l.var).assigned && beq (cell_of cells l.var).positive l.positive

-- whether a table of bytes, with one for each literal by its number, says that a literal is true
abbrev pub is_true_by : List Bool → SatLit → Bool
is_true_by values l = slice_index_or values (packed l) false

-- the new table of bytes has this value for the literal, and all others as the old one has them
pub record SetsValue (before after : List Bool) (l : SatLit) (value : Bool) : Type 0 where
  pub values : (m : SatLit) → is_true_by after m ≡ (if same_literal l m then value else is_true_by before m)
  pub made : length after ≡ length before

-- a table of bytes says that a literal is false where the other one says that its negation is true
pub record AreDenials (denials values : List Bool) : Type 0 where
  pub same : (l : SatLit) → is_true_by denials l ≡ is_true_by values (negated l)
  pub made : length denials ≡ length values

-- a table of bytes says of each literal what the cells say, and has two for each of them
pub record AreValues (values : List Bool) (cells : List Cell) : Type 0 where
  pub same : (l : SatLit) → is_true_by values l ≡ is_true_in cells l
  pub made : length values ≡ length cells * 2

-- the table says of exactly the literals of the steps that they are true, and where they stand
pub record IsTabled (cells : List Cell) (steps : List Step) : Type 0 where
  pub values : (l : SatLit) → is_true_in cells l ≡ holds (literals steps) l
  pub places : (i : ℕ) (step : Step) → slice_get steps i ≡ Some step → (cell_of cells step.literal.var).place ≡ i

-- no variable stands on the trail twice, each is made, and the starts ascend and are within the trail
pub record IsTrail (trail : TrailState) : Type 0 where
  pub once : HoldsNoVariableTwice (literals trail.steps)
  pub over : IsOver (length trail.phases) (literals trail.steps)
  pub within : All (λ s. s < length trail.steps) trail.starts
  pub ascending : (i j : ℕ) → i < j → j < length trail.starts → slice_index_or trail.starts i 0 < slice_index_or trail.starts j 0

-- the phase of a variable that has a value is this value
abbrev pub IsPhased : TrailState → Type 0
IsPhased trail = (l : SatLit) → IsTrue (holds (literals trail.steps) l) → slice_index_or trail.phases l.var.0 false ≡ l.positive

pub record IsTrailInside (cells : List Cell) (trail : TrailState) : Type 0 where
  pub tabled : IsTabled cells trail.steps
  pub right : IsTrail trail

pub record IsTrailWhole (values : List Bool) (cells : List Cell) (trail : TrailState) : Type 0 where
  pub valued : AreValues values cells
  pub inside : IsTrailInside cells trail
