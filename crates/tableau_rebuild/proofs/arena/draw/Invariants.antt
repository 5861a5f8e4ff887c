use Rattle.std.proofs.Common.{◌≡◌, []}
use Rattle.tableau_rebuild.specs.Internal.Arenas.{AreDrafted}
use Rattle.tableau_rebuild.proofs.arena.draw.Given as goal

abbrev pub invariant-loop-n : goal.invariant-loop-n
invariant-loop-n l = record {
  done : AreDrafted l.steps l.log l.arena l.n;
  empty : l.resolver ≡ [];
}
