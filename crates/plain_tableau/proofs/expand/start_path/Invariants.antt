use Rattle.std.proofs.Common.{◌≡◌, [], length, take}
use Rattle.tableau_calculus.specs.Kinds.{added}
use Rattle.search_spec.specs.Numbered.{numbers}
use Rattle.plain_tableau.specs.Internal.Due.{IsPath}
use Rattle.plain_tableau.proofs.expand.start_path.Given as goal

abbrev pub invariant-loop-i : goal.invariant-loop-i
invariant-loop-i l = record {
  path : IsPath (length l.atoms) l.steps l.used l.path;
  keys : l.path.literals.keys ≡ added numbers [] (take l.i l.units.items);
}
