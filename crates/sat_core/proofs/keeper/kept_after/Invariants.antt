use Rattle.std.proofs.Common.{◌≡◌, ◌<◌, length}
use Rattle.sat_core.specs.Internal.Keeper.{AreTrueBut}
use Rattle.sat_core.proofs.keeper.kept_after.Given as goal

abbrev pub invariant-loop-round : goal.invariant-loop-round
invariant-loop-round l = record {
  made : length l.values ≡ length l.fn.values;
  inside : l.n < l.bound;
  but : AreTrueBut l.values l.n l.bound l.clauses;
}
