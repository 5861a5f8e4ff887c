-- What a writer does to a sink, by what the sink tells, what it holds and how many faults it counts, before and after.
use Rattle.std.specs.Prelude.{◌≡◌, ℕ, ◌≤◌, Bool, List, ◌++◌, IsTrue}
use Rattle.outside.specs.Causes.{Rose}
use Rattle.outside.specs.Prefix.{AppendsProperly}

-- the sink took the whole text
pub record Took {S : Type 0} (tells : S → Bool) (written : S → List ℕ) (faults : S → ℕ) (old new : S) (text : List ℕ) : Type 0 where
  pub appended : IsTrue (tells old) → written new ≡ written old ++ text
  pub quiet : faults new ≡ faults old
  pub telling : IsTrue (tells old) → IsTrue (tells new)

-- the sink failed before it had the whole text
pub record Stopped {S : Type 0} (tells : S → Bool) (written : S → List ℕ) (faults : S → ℕ) (old new : S) (text : List ℕ) : Type 0 where
  pub cut : IsTrue (tells old) → AppendsProperly (written old) (written new) text
  pub cause : Rose (faults old) (faults new)
  pub later : faults old ≤ faults new
  pub telling : IsTrue (tells old) → IsTrue (tells new)
