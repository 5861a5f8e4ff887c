use Rattle.std.proofs.Common.{◌≡◌, take}
use Rattle.rebuild_spec.specs.Input.{literals_of}
use Rattle.tableau_rebuild.specs.Tables.{atoms_at}
use Rattle.tableau_rebuild.specs.Pools.{IsMadePool}
use Rattle.tableau_rebuild.proofs.literals.lits_of.Given as goal

abbrev pub invariant-loop-i : goal.invariant-loop-i
invariant-loop-i l = record {
  lits : l.lits ≡ literals_of (atoms_at l.bank.terms l.atoms) (take l.i l.branch);
  made : IsMadePool l.bank.terms l.atoms l.pool;
}
