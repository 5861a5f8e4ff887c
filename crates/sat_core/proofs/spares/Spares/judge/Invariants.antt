use Rattle.std.specs.List.{Contains}
use Rattle.sat_base.specs.declared.literal.Var.{Var}
use Rattle.sat_core.specs.Internal.Spares.{held}
use Rattle.sat_core.proofs.spares.Spares.judge.Given as goal

abbrev pub invariant-loop : goal.invariant-loop
invariant-loop l = record {
  taken : Contains (held l.self.judged.items l.self.visits.items) l.fn.var;
  kept : (v : Var) → Contains l.fn.self.judged.items v → Contains (held l.self.judged.items l.self.visits.items) v;
}
