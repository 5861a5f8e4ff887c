-- The instances that are due on a branch, by their places in the list of those that are used.
use Rattle.std.specs.Prelude.{◌≡◌, ◌<◌, ◌||◌, ◌⊎◌, ℕ, Bool, true, List, [], length, Option, Some, None, slice_get, slice_index_or, Contains}
use Rattle.std.specs.Ordering.{nat_cmp}
use Rattle.std.specs.List.{list_any, All}
use Rattle.std.specs.BTreeSet.{contains}
use Rattle.sat_base.specs.declared.literal.Var.{Var}
use Rattle.sat_base.specs.declared.literal.SatLit.{SatLit}
use Rattle.sat_base.specs.Literal.{negated, holds, mentions_variable, IsOver}
use Rattle.search_spec.specs.Numbered.{numbers}
use Rattle.literal_map.specs.declared.instance.Instance.{Instance as BankInstance}
use Rattle.tableau_clauses.specs.Table.{Table}
use Rattle.tableau_rebuild.specs.Tables.{no_rule}
use Rattle.plain_tableau.specs.Trees.{TreeInstance}
use Rattle.plain_tableau.specs.Expansion.{is_due}
use Rattle.plain_tableau.specs.declared.due.Due.{Due}
use Rattle.plain_tableau.specs.declared.path.Path.{Path}

-- an instance of the table without its rule, and one with nothing where there is none
abbrev pub without_rule : Option BankInstance → TreeInstance SatLit
without_rule (Some i) = record { rule = no_rule; principals = i.principals; alternatives = i.alternatives }
without_rule None = record { rule = no_rule; principals = []; alternatives = [] }

abbrev pub at_number : Table → ℕ → TreeInstance SatLit
at_number t k = without_rule (slice_get t.1 k)

abbrev pub is_due_at : Table → List SatLit → ℕ → Bool
is_due_at t branch k = is_due numbers branch (at_number t k)

-- whether the place is one of those that are due
abbrev pub is_due_place : Due → ℕ → Bool
is_due_place due u = contains nat_cmp due.places u

-- the places that are due are those of the instances that are due on the branch
abbrev pub AreDue : Table → List ℕ → List SatLit → Due → Type 0
AreDue t used branch due = (u k : ℕ) → slice_get used u ≡ Some k → is_due_place due u ≡ is_due_at t branch k

-- no further place is due
abbrev pub IsInside : List ℕ → Due → Type 0
IsInside used due = (u : ℕ) → is_due_place due u ≡ true → u < length used

-- whether the variable stands in the instance
abbrev pub names_variable : TreeInstance SatLit → Var → Bool
names_variable i v = mentions_variable i.principals v || list_any (λ a. mentions_variable a v) i.alternatives

-- for each variable, the places of the instances in which it stands are listed
abbrev pub AreNotedByVariable : Table → List ℕ → List (List ℕ) → Type 0
AreNotedByVariable t used noted =
    (u k : ℕ) (v : Var) → slice_get used u ≡ Some k → names_variable (at_number t k) v ≡ true → Contains (slice_index_or noted v.0 []) u

-- only places of instances are listed
abbrev pub ArePlacesOfUsed : List ℕ → List (List ℕ) → Type 0
ArePlacesOfUsed used noted = (n u : ℕ) → Contains (slice_index_or noted n []) u → u < length used

-- the place is listed for each variable that passes the test, what was listed stays, and nothing else is listed
pub record IsNotedMore (test : Var → Bool) (place : ℕ) (old new : List (List ℕ)) : Type 0 where
  pub count : length new ≡ length old
  pub listed : (v : Var) → test v ≡ true → Contains (slice_index_or new v.0 []) place
  pub kept : (n u : ℕ) → Contains (slice_index_or old n []) u → Contains (slice_index_or new n []) u
  pub only : (n u : ℕ) → Contains (slice_index_or new n []) u → Contains (slice_index_or old n []) u ⊎ (u ≡ place)

-- the literals of the instance with this number are over so many variables
pub record AreLiteralsOver (count : ℕ) (t : Table) (k : ℕ) : Type 0 where
  pub principals : IsOver count (at_number t k).principals
  pub alternatives : All (IsOver count) (at_number t k).alternatives

-- whether a branch with these literals holds one of them and its negation
abbrev pub clashes : List SatLit → List SatLit → Bool
clashes branch ls = list_any (λ l. holds branch (negated l) || holds ls (negated l)) ls

-- The instances that are due on the branch are known, and those in which variables stand.
pub record IsPath (count : ℕ) (t : Table) (used : List ℕ) (p : Path) : Type 0 where
  pub over : IsOver count p.literals.keys
  pub counted : length p.noted.items ≡ count
  pub noted : AreNotedByVariable t used p.noted.items
  pub places : ArePlacesOfUsed used p.noted.items
  pub due : AreDue t used p.literals.keys p.due
  pub inside : IsInside used p.due
