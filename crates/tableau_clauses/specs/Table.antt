-- What a table of steps holds: clauses, each with where it comes from, and instances of rules.
use Rattle.std.specs.Prelude.{◌≡◌, ◌<◌, ◌≤◌, ℕ, List, [], ◌∷◌, ◌++◌, map, Some, slice_get, Contains}
use Rattle.sat_base.specs.declared.literal.SatLit.{SatLit}
use Rattle.literal_map.specs.declared.instance.Instance.{Instance}
use Rattle.search_spec.specs.Clauses.{instance_clauses}
use Rattle.search_spec.specs.Numbered.{numbers}
use Rattle.tableau_clauses.specs.declared.origin.Origin.{Origin}
use Rattle.tableau_clauses.specs.declared.origin.Origin.TheVariants.{Start, Instance as From}

-- a clause with where it comes from
abbrev pub Step : Type 0
Step = List SatLit × Origin

abbrev pub clauses_in : List Step → List (List SatLit)
clauses_in steps = map (λ s. s.0) steps

abbrev pub origins_in : List Step → List Origin
origins_in steps = map (λ s. s.1) steps

abbrev pub Table : Type 0
Table = List Step × List Instance

abbrev pub the_clauses : Table → List (List SatLit)
the_clauses t = clauses_in t.0

abbrev pub the_origins : Table → List Origin
the_origins t = origins_in t.0

abbrev pub the_instances : Table → List Instance
the_instances t = t.1

-- the literals of a clause of the start, and of another one none
abbrev pub units_in : List SatLit → Origin → List SatLit
units_in clause Start = clause
units_in clause (From k) = []

-- the literals of the start units, in order
abbrev pub start_units : List Step → List SatLit
start_units [] = []
start_units (s ∷ steps) = units_in s.0 s.1 ++ start_units steps

-- the clause comes from there: a start unit is one literal, and another clause is one of its instance's
abbrev pub ComesFromOrigin : List Instance → List SatLit → Origin → Type 0
ComesFromOrigin instances clause Start = (l : SatLit) × (clause ≡ l ∷ [])
ComesFromOrigin instances clause (From k) =
    (i : Instance) × (slice_get instances k ≡ Some i) × Contains (instance_clauses numbers i.principals i.alternatives) clause

-- each clause comes from where it is said to come from
abbrev pub EachComes : Table → Type 0
EachComes t = (n : ℕ) (s : Step) → slice_get t.0 n ≡ Some s → ComesFromOrigin t.1 s.0 s.1

-- The clauses of an earlier instance stand before those of a later one, and each clause comes from the first instance that has it.
pub record StandInOrder (t : Table) : Type 0 where
  pub sorted : (m n a b : ℕ) → slice_get (the_origins t) m ≡ Some (From a) → slice_get (the_origins t) n ≡ Some (From b) → a < b → m < n
  pub first : (n a b : ℕ) (s : Step) (i : Instance) → slice_get t.0 n ≡ Some s → s.1 ≡ From b → slice_get t.1 a ≡ Some i
      → Contains (instance_clauses numbers i.principals i.alternatives) s.0 → b ≤ a
