-- Lists of allowed values, by their places.
use Rattle.std.specs.Prelude.{◌≡◌, ◌<◌, ◌≤◌, ℕ, ◌+◌, ◌*◌, max, Bool, true, false, List, [], ◌∷◌, length, slice_get, slice_index, slice_index_or, Some, ◌⊎◌}
use Rattle.finite_models.specs.Internal.Worth.{worth, IsSafe}
use Rattle.finite_models.specs.declared.expr.Expr.{Expr}
use Rattle.finite_models.specs.declared.expr.Expr.TheVariants.{Bound, Symbol, False, Not', Imp', All', Eq', Apply', Table', Repeat', Whole'}
use Rattle.finite_models.specs.declared.search.Check.{Check}

-- the value is an allowed one
abbrev pub IsAllowed : List Bool → ℕ → Type 0
IsAllowed allowed v = slice_index_or allowed v false ≡ true

-- each value is an allowed one of its place
pub record AreAllowed (ds : List (List Bool)) (vs : List ℕ) : Type 0 where
  pub count : length vs ≡ length ds
  pub each : (i : ℕ) (d : List Bool) → slice_get ds i ≡ Some d → IsAllowed d (slice_index vs i)

-- each place has an allowed value
abbrev pub AreFilled : List (List Bool) → Type 0
AreFilled ds = (i : ℕ) (d : List Bool) → slice_get ds i ≡ Some d → (v : ℕ) × IsAllowed d v

-- each place has few values
abbrev pub AreFewValues : List (List Bool) → Type 0
AreFewValues ds = (i : ℕ) (d : List Bool) → slice_get ds i ≡ Some d → length d ≤ 1048576

-- the same first values
abbrev pub SameFront : ℕ → List ℕ → List ℕ → Type 0
SameFront r vs ws = (j : ℕ) → j < r → slice_index vs j ≡ slice_index ws j

-- at the first place where they differ the first list has the smaller value
pub record IsEarlier (ws vs : List ℕ) : Type 0 where
  pub at : ℕ
  pub within : at < length vs
  pub same : SameFront at ws vs
  pub less : slice_index ws at < slice_index vs at

-- from a place on, each value is the least allowed one
abbrev pub AreLeastFrom : ℕ → List (List Bool) → List ℕ → Type 0
AreLeastFrom from ds vs =
    (i : ℕ) (d : List Bool)
    → from ≤ i
    → slice_get ds i ≡ Some d
    → IsAllowed d (slice_index vs i) × ((v : ℕ) → IsAllowed d v → slice_index vs i ≤ v)

-- how many lists there are
abbrev pub lists : List (List Bool) → ℕ
lists [] = 1
lists (d ∷ ds) = length d * lists ds

-- the number of a list of values in their order
abbrev pub rank : List (List Bool) → List ℕ → ℕ
rank [] vs = 0
rank (d ∷ ds) [] = 0
rank (d ∷ ds) (v ∷ vs) = v * lists ds + rank ds vs

-- how many of the first symbols have all that occur in an expression
abbrev pub reach_of : Expr → ℕ
reach_of (Bound k) = 0
reach_of (Symbol i) = i + 1
reach_of False = 0
reach_of (Not' p e) = reach_of e
reach_of (Imp' p a q b) = max (reach_of a) (reach_of b)
reach_of (All' n p e) = reach_of e
reach_of (Eq' p a q b) = max (reach_of a) (reach_of b)
reach_of (Apply' b p f q x) = max (reach_of f) (reach_of x)
reach_of (Table' b n p e) = reach_of e
reach_of (Repeat' n p e) = reach_of e
reach_of (Whole' n p e) = reach_of e

-- each formula is worth what it is to be
abbrev pub PassesAll : List Check → List ℕ → Type 0
PassesAll checks vs = (k : ℕ) (c : Check) → slice_get checks k ≡ Some c → worth c.expr vs [] ≡ c.wanted

-- each formula can be evaluated, and its reach is known
abbrev pub AreReady : List Check → List ℕ → Type 0
AreReady checks vs = (k : ℕ) (c : Check) → slice_get checks k ≡ Some c → IsSafe c.expr vs [] × (c.reach ≡ reach_of c.expr)

-- what is earlier than the new list is earlier than the old one, or the same up to the reach
abbrev pub IsPassedBy : List (List Bool) → ℕ → List ℕ → List ℕ → Type 0
IsPassedBy ds r vs ws = IsEarlier ws vs ⊎ SameFront r vs ws

abbrev pub AllArePassed : List (List Bool) → ℕ → List ℕ → Type 0
AllArePassed ds r vs = (ws : List ℕ) → AreAllowed ds ws → IsPassedBy ds r vs ws

-- what has the same first values fails too
abbrev pub FailsWithin : List Check → List ℕ → ℕ → Type 0
FailsWithin checks vs r = (ws : List ℕ) → SameFront r vs ws → PassesAll checks ws → ⊥

abbrev pub NoListPasses : List (List Bool) → List Check → Type 0
NoListPasses ds checks = (ws : List ℕ) → AreAllowed ds ws → PassesAll checks ws → ⊥

-- the next list after all that are the same up to the reach
pub record IsNext (ds : List (List Bool)) (r : ℕ) (old new : List ℕ) : Type 0 where
  pub allowed : AreAllowed ds new
  pub later : IsEarlier old new
  pub passed : (ws : List ℕ) → AreAllowed ds ws → IsEarlier ws new → IsPassedBy ds r old ws

-- the first list that passes
pub record IsFirstPassing (ds : List (List Bool)) (checks : List Check) (vs : List ℕ) : Type 0 where
  pub allowed : AreAllowed ds vs
  pub passes : PassesAll checks vs
  pub first : (ws : List ℕ) → AreAllowed ds ws → IsEarlier ws vs → PassesAll checks ws → ⊥
