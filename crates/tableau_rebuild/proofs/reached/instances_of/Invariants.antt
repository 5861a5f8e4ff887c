use Rattle.std.proofs.Common.{ℕ, ◌↔◌, Contains}
use Rattle.tableau_rebuild.specs.Internal.Flags.{HasFlaggedOrigin}
use Rattle.tableau_rebuild.proofs.reached.instances_of.Given as goal

abbrev pub invariant-loop-n : goal.invariant-loop-n
invariant-loop-n l = (k : ℕ) → Contains l.numbers.items k ↔ HasFlaggedOrigin l.steps l.clauses l.n k
