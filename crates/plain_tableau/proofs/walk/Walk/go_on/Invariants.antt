use Rattle.std.proofs.Common.{◌≡◌, length, reverse}
use Rattle.tableau_rebuild.specs.Tables.{atoms_at}
use Rattle.plain_tableau.specs.Tables.{the_used}
use Rattle.plain_tableau.specs.Internal.Due.{IsPath}
use Rattle.plain_tableau.specs.Internal.Writing.{IsWriting}
use Rattle.plain_tableau.specs.Internal.Walking.{IsBack}
use Rattle.plain_tableau.proofs.walk.Walk.go_on.Given as goal

abbrev pub invariant-loop-k : goal.invariant-loop-k
invariant-loop-k l = record {
  path : IsPath (length l.atoms) l.steps l.used l.self.path;
  writing : IsWriting l.bank l.atoms l.witnesses l.self.writing;
  back : IsBack (the_used l.bank.terms l.atoms l.steps l.used) l.nodes l.start (atoms_at l.bank.terms l.atoms) l.made (reverse l.self.frames.items) l.frame l.self.path.literals.keys l.self.writing.lines;
  count : length l.frame.children ≡ l.k;
  place : l.frame.place ≡ l.initial.frame.place;
}
