use Rattle.tableau_rebuild.specs.Internal.Flags.{AreFlagsOf}
use Rattle.tableau_rebuild.proofs.reached.reach.Given as goal

abbrev pub invariant-loop-n : goal.invariant-loop-n
invariant-loop-n l = AreFlagsOf l.steps l.log l.n l.reached
