use Rattle.std.proofs.Common.{◌≡◌, take}
use Rattle.rebuild_spec.specs.Input.{literals_of}
use Rattle.rebuild_spec.specs.NeededRows.{rows_for_all}
use Rattle.tableau_rebuild.specs.Tables.{atoms_at}
use Rattle.tableau_rebuild.proofs.needed.rows_for_branch.Given as goal

abbrev pub invariant-loop-i : goal.invariant-loop-i
invariant-loop-i l = l.rows ≡ rows_for_all (literals_of (atoms_at l.bank.terms l.atoms) (take l.i l.branch))
