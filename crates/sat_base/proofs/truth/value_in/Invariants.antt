use Rattle.std.proofs.Common.{◌≡◌, false, take}
use Rattle.sat_base.specs.Truth.{clause_value, assigned}
use Rattle.sat_base.proofs.truth.value_in.Given as goal

-- no literal so far is true
abbrev pub invariant-loop-literal : goal.invariant-loop-literal
invariant-loop-literal l = clause_value (assigned l.assignment) (take l.literal-index l.clause) ≡ false
