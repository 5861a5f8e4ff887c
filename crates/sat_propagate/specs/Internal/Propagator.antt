-- What is true of a propagator, fact by fact.
use Rattle.std.specs.Prelude.{◌≡◌, ◌≢◌, ◌⊎◌, ◌<◌, ◌≤◌, ◌*◌, ℕ, IsTrue, List, [], ◌∷◌, ◌++◌, if◌then◌else◌, Some, None, map, length, take, slice_get}
use Rattle.std.specs.List.{All, Contains}
use Rattle.sat_base.specs.declared.literal.SatLit.{SatLit}
use Rattle.sat_base.specs.Literal.{same_literal, holds, IsOver}
use Rattle.sat_log.specs.Propagation.{IsUnitClause, IsFalseIn}
use Rattle.sat_laws.specs.Internal.Complete.{satisfies, IsClausePart}
use Rattle.sat_laws.specs.Internal.Watching.{IsKept}
use Rattle.sat_propagate.specs.Internal.Trail.{TrailState, literals}
use Rattle.sat_propagate.specs.Internal.WatchLists.{WatchTable, NamesWatches, watchers}
use Rattle.sat_propagate.specs.declared.trail.Step.{Step}
use Rattle.sat_propagate.specs.declared.watch_lists.Watch.{Watch}
use Rattle.sat_propagate.specs.Internal.ClauseTable.{Watched}

-- a step without a reason is a decision's; a reason is a clause whose only open literal was the step's
pub record IsReasoned (clauses : List Watched) (trail : TrailState) (i : ℕ) (step : Step) : Type 0 where
  pub decided : step.reason ≡ None → Contains trail.starts i
  pub forced :
      (n : ℕ)
      → step.reason ≡ Some n
      → (watched : Watched)
      × (slice_get clauses n ≡ Some watched)
      × IsUnitClause (take i (literals trail.steps)) watched.clause step.literal

-- a literal is watched, and the other watched one is this
abbrev pub IsPair : Watched → SatLit → SatLit → Type 0
IsPair watched l other = ((watched.first ≡ l) × (watched.second ≡ other)) ⊎ ((watched.second ≡ l) × (watched.first ≡ other))

-- a clause watches a literal
abbrev pub Watches : Watched → SatLit → Type 0
Watches watched l = (watched.first ≡ l) ⊎ (watched.second ≡ l)

-- of the watched literals, the other one than this where the first is this one, and else the first
abbrev pub IsBeside : Watched → SatLit → SatLit → Type 0
IsBeside watched l other = ((watched.first ≡ l) × (watched.second ≡ other)) ⊎ ((watched.first ≢ l) × (watched.first ≡ other))

-- a clause of the list is kept, and its literals are among those of this clause
pub record IsCovered (starts : List ℕ) (trail : List SatLit) (processed : ℕ) (clauses : List Watched) (clause : List SatLit) : Type 0 where
  pub at : ℕ
  pub part : Watched
  pub there : slice_get clauses at ≡ Some part
  pub among : IsClausePart part.clause clause
  pub kept : IsKept starts trail processed part.clause part.first part.second

-- the facts that hold of a propagator between any two calls. A clause watches two literals, or one, named twice, which no list has
pub record IsPropagator (trail : TrailState) (processed : ℕ) (clauses : List Watched) (lists : WatchTable) : Type 0 where
  pub reasoned : (i : ℕ) (step : Step) → slice_get trail.steps i ≡ Some step → IsReasoned clauses trail i step
  pub started : All (λ s. s ≤ processed) trail.starts
  pub processed_within : processed ≤ length trail.steps
  pub covered :
      (n : ℕ) (watched : Watched)
      → slice_get clauses n ≡ Some watched
      → IsCovered trail.starts (literals trail.steps) processed clauses watched.clause
  pub members :
      (n : ℕ) (watched : Watched)
      → slice_get clauses n ≡ Some watched
      → IsTrue (holds watched.clause watched.first) × IsTrue (holds watched.clause watched.second)
  pub listed :
      (n : ℕ) (watched : Watched) (l : SatLit)
      → slice_get clauses n ≡ Some watched
      → watched.first ≢ watched.second
      → Watches watched l
      → NamesWatches (watchers lists l) n watched.clause
  pub over : (n : ℕ) (watched : Watched) → slice_get clauses n ≡ Some watched → IsOver (length trail.phases) watched.clause
  pub lists_made : length trail.phases * 2 ≤ length lists

-- the texts of some clauses
abbrev pub texts : List Watched → List (List SatLit)
texts clauses = map (λ watched. watched.clause) clauses

-- an entry of a literal's list is done: a clause that it names, with a blocker of that clause, and that watches the literal, is true
abbrev pub IsWatchDone : TrailState → List Watched → SatLit → Watch → Type 0
IsWatchDone trail clauses l entry =
    (watched : Watched)
    → slice_get clauses entry.clause ≡ Some watched
    → Watches watched l
    → IsTrue (holds watched.clause entry.blocker)
    → IsTrue (satisfies (literals trail.steps) watched.clause)

-- the first of some entries of a literal are done
abbrev pub AreEntriesDone : TrailState → List Watched → SatLit → List Watch → ℕ → Type 0
AreEntriesDone trail clauses l entries i =
    (k : ℕ) (entry : Watch) → k < i → slice_get entries k ≡ Some entry → IsWatchDone trail clauses l entry

-- the first entries of a literal's list are done
abbrev pub AreDone : TrailState → List Watched → WatchTable → SatLit → ℕ → Type 0
AreDone trail clauses lists l i = AreEntriesDone trail clauses l (watchers lists l) i

-- the trail only grew, at its end and with no decision, and the clauses are the same
pub record Grew (trail : TrailState) (clauses : List Watched) (after : TrailState) (clauses_after : List Watched) : Type 0 where
  pub more : List Step
  pub appended : after.steps ≡ trail.steps ++ more
  pub starts_same : after.starts ≡ trail.starts
  pub made_same : length after.phases ≡ length trail.phases
  pub clauses_same : texts clauses_after ≡ texts clauses

-- all literals of the clause with this number are false
pub record IsConflict (trail : TrailState) (clauses : List Watched) (n : ℕ) : Type 0 where
  pub watched : Watched
  pub there : slice_get clauses n ≡ Some watched
  pub falsified : IsFalseIn (literals trail.steps) watched.clause

-- one clause watches a literal in place of another one, and the other clauses are as they were
pub record Rewatched (before after : List Watched) (n : ℕ) (from to other : SatLit) : Type 0 where
  pub old : Watched
  pub new : Watched
  pub was : slice_get before n ≡ Some old
  pub is : slice_get after n ≡ Some new
  pub text : new.clause ≡ old.clause
  pub pair_before : IsPair old from other
  pub pair_after : IsPair new to other
  pub others : (k : ℕ) → k ≢ n → slice_get after k ≡ slice_get before k
  pub texts_same : texts after ≡ texts before

-- one clause watches its first literal alone, and the other clauses are as they were
pub record Detaches (before after : List Watched) (n : ℕ) : Type 0 where
  pub old : Watched
  pub new : Watched
  pub was : slice_get before n ≡ Some old
  pub is : slice_get after n ≡ Some new
  pub text : new.clause ≡ old.clause
  pub first_same : new.first ≡ old.first
  pub second_first : new.second ≡ old.first
  pub others : (k : ℕ) → k ≢ n → slice_get after k ≡ slice_get before k
  pub texts_same : texts after ≡ texts before

-- the lists with one entry more for a literal
abbrev pub Enlists : WatchTable → WatchTable → SatLit → Watch → Type 0
Enlists before after l entry =
    (m : SatLit) → watchers after m ≡ (if same_literal l m then watchers before m ++ entry ∷ [] else watchers before m)

-- a clause watches a literal in place of another one, and is in its list
pub record Moves (before after : List Watched) (lists more : WatchTable) (n : ℕ) (from to : SatLit) : Type 0 where
  pub other : SatLit
  pub changed : Rewatched before after n from to other
  pub enlists : Enlists lists more to (record { clause = n; blocker = other })
  pub made : length more ≡ length lists
