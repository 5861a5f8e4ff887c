use Rattle.std.proofs.Common.{◌≡◌, length, take}
use Rattle.tableau_calculus.specs.Kinds.{added}
use Rattle.search_spec.specs.Numbered.{numbers}
use Rattle.plain_tableau.specs.Internal.Due.{IsPath}
use Rattle.plain_tableau.proofs.walk.Walk.enter.Given as goal

abbrev pub invariant-loop-i : goal.invariant-loop-i
invariant-loop-i l = record {
  path : IsPath (length l.atoms) l.steps l.used l.self.path;
  keys : l.self.path.literals.keys ≡ added numbers l.fn.self.path.literals.keys (take l.i l.lits);
  frames : l.self.frames ≡ l.fn.self.frames;
  writing : l.self.writing ≡ l.fn.self.writing;
}
