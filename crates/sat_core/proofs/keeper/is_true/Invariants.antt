use Rattle.std.proofs.Common.{◌≡◌, false, take}
use Rattle.sat_base.specs.Truth.{clause_value, assigned}
use Rattle.sat_core.proofs.keeper.is_true.Given as goal

-- no literal so far is true
abbrev pub invariant-loop-literal : goal.invariant-loop-literal
invariant-loop-literal l = clause_value (assigned l.values) (take l.literal-index l.among) ≡ false
