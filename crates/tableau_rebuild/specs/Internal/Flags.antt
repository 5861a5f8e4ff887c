-- What the chain of the last result reaches, by flags.
use Rattle.std.specs.Prelude.{◌≡◌, ◌<◌, ◌≤◌, ◌+◌, ◌||◌, ℕ, Bool, true, false, List, length, Option, Some, None, slice_get, slice_index_or}
use Rattle.std.specs.List.{All, list_any}
use Rattle.sat_log.specs.declared.chain.Chain.{Chain}
use Rattle.sat_log.specs.declared.log.LogEntry.{LogEntry}
use Rattle.tableau_clauses.specs.declared.origin.Origin.TheVariants.{Instance as From}
use Rattle.tableau_clauses.specs.Table.{Table, the_clauses, the_origins}
use Rattle.rebuild_spec.specs.Trees.{Place, at_clause, at_step, at_result, same_place}
use Rattle.rebuild_spec.specs.Stands.{premise_place}
use Rattle.rebuild_spec.specs.Used.{IsUsed}
use Rattle.tableau_rebuild.specs.declared.reached.Reached.{Reached}
use Rattle.tableau_rebuild.specs.Internal.Arenas.{IsThere}

-- whether the flag of a clause or a result is set
abbrev pub flagged : Reached → Place → Bool
flagged r (at_clause n) = slice_index_or r.clauses.items n false
flagged r (at_result n) = slice_index_or r.results.items n false
flagged r (at_step n k) = false

-- whether the clause or the result at the place is a premise of the chain
abbrev pub is_premise : Chain → Place → Bool
is_premise chain p = same_place (premise_place chain.first) p || list_any (λ step. same_place (premise_place step.premise) p) chain.steps

abbrev pub is_premise_of : Option LogEntry → Place → Bool
is_premise_of (Some entry) p = is_premise entry.chain p
is_premise_of None p = false

abbrev pub is_premise_in : List LogEntry → ℕ → Place → Bool
is_premise_in log n p = is_premise_of (slice_get log n) p

-- the premises of the chain are there
pub record ArePremisesThere (clauses results : ℕ) (chain : Chain) : Type 0 where
  pub first : IsThere clauses results chain.first
  pub steps : All (λ step. IsThere clauses results step.premise) chain.steps

-- Flags of what is used alone, with that of the last result, and with those of all premises of the results from this one on whose flags
-- are set.
pub record AreFlagsOf (t : Table) (log : List LogEntry) (n : ℕ) (r : Reached) : Type 0 where
  pub clauses : length r.clauses.items ≡ length (the_clauses t)
  pub results : length r.results.items ≡ length log
  pub sound : (p : Place) → flagged r p ≡ true → IsUsed log p
  pub last : (m : ℕ) → length log ≡ m + 1 → flagged r (at_result m) ≡ true
  pub closed : (m : ℕ) (p : Place) → n ≤ m → flagged r (at_result m) ≡ true → is_premise_in log m p ≡ true → flagged r p ≡ true

-- the clause is reached, and comes from the instance
pub record IsFlaggedOrigin (t : Table) (clauses : List Bool) (n k : ℕ) : Type 0 where
  pub flag : slice_index_or clauses n false ≡ true
  pub origin : slice_get (the_origins t) n ≡ Some (From k)

-- one of the first so many clauses is reached, and comes from the instance
pub record HasFlaggedOrigin (t : Table) (clauses : List Bool) (count k : ℕ) : Type 0 where
  pub number : ℕ
  pub below : number < count
  pub is : IsFlaggedOrigin t clauses number k
