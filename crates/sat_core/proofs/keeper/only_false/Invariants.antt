use Rattle.std.proofs.Common.{◌≡◌, ◌≢◌, ◌⊎◌, ◌<◌, ◌-◌, length, ℕ, IsTrue, List, Some}
use Rattle.std.specs.List.{slice_get}
use Rattle.sat_base.specs.declared.literal.SatLit.{SatLit}
use Rattle.sat_base.specs.Truth.{clause_value, assigned}
use Rattle.sat_core.specs.Internal.Uses.{IsListed, IsUse}
use Rattle.sat_core.proofs.keeper.only_false.Given as goal

abbrev pub invariant-loop-entry : goal.invariant-loop-entry
invariant-loop-entry l = record {
  inside : l.found < l.bound;
  others : (k : ℕ) (clause : List SatLit) → IsUse l.uses l.fn.var k → k < l.bound → k ≢ l.found → k ≢ l.n → slice_get l.clauses k ≡ Some clause
      → IsListed l.uses.uses l.place k ⊎ IsTrue (clause_value (assigned l.values) clause);
}

abbrev pub decreases-loop-entry : goal.decreases-loop-entry
decreases-loop-entry l = length l.uses.uses - l.place
