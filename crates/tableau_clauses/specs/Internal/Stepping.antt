-- Clauses that are added with one origin.
use Rattle.std.specs.Prelude.{◌≡◌, ℕ, List, [], ◌∷◌, ◌++◌, map, if◌then◌else◌, Some, slice_get, Contains, IsTrue}
use Rattle.std.specs.List.{list_any}
use Rattle.sat_base.specs.declared.literal.SatLit.{SatLit}
use Rattle.literal_map.specs.declared.instance.Instance.{Instance}
use Rattle.search_spec.specs.Clauses.{same_clause, instance_clauses}
use Rattle.search_spec.specs.Numbered.{numbers}
use Rattle.tableau_clauses.specs.declared.origin.Origin.{Origin}
use Rattle.tableau_clauses.specs.Table.{Step, clauses_in, Table, EachComes, StandInOrder}

-- the steps with each of the further clauses, in order, that isn't there yet
abbrev pub with_steps : Origin → List Step → List (List SatLit) → List Step
with_steps origin es [] = es
with_steps origin es (c ∷ cs) =
    with_steps origin (if list_any (same_clause numbers c) (clauses_in es) then es else es ++ (c, origin) ∷ []) cs

-- behind the earlier steps stand further ones of this origin
pub record Adds (origin : Origin) (old new : List Step) : Type 0 where
  pub further : List (List SatLit)
  pub steps : new ≡ old ++ map (λ c. (c, origin)) further

-- each clause of an instance is there
abbrev pub AllStand : Table → Type 0
AllStand t =
    (a : ℕ) (i : Instance) (c : List SatLit) → slice_get t.1 a ≡ Some i → Contains (instance_clauses numbers i.principals i.alternatives) c
    → IsTrue (list_any (same_clause numbers c) (clauses_in t.0))

-- what a table of steps keeps
pub record IsRightTable (t : Table) : Type 0 where
  pub comes : EachComes t
  pub order : StandInOrder t
  pub all : AllStand t
