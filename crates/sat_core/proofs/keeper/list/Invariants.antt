use Rattle.std.proofs.Common.{◌≡◌, ℕ, length, take}
use Rattle.sat_base.specs.declared.literal.Var.{Var}
use Rattle.sat_core.specs.Internal.Uses.{IsUse}
use Rattle.sat_core.specs.Internal.Keeper.{IsUsedIn}
use Rattle.sat_core.proofs.keeper.list.Given as goal

abbrev pub invariant-loop-literal : goal.invariant-loop-literal
invariant-loop-literal l = record {
  made : length l.uses.ends ≡ length l.fn.uses.ends;
  before : (v : Var) (k : ℕ) → IsUse l.fn.uses v k → IsUse l.uses v k;
  listed : IsUsedIn l.uses l.n (take l.literal-index l.among);
}
