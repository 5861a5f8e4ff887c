use Rattle.std.proofs.Common.{List, map, take}
use Rattle.tableau_calculus.specs.Literals.{Literal}
use Rattle.tableau_calculus.specs.Accepted.{AreChildren}
use Rattle.tableau_calculus.specs.declared.refutation.Line.{Line}
use Rattle.refute_check.specs.Internal.Branches.{Represents, AreNumberedBranch, AreBranches}
use Rattle.refute_check.specs.Internal.Shared.{shared_atoms, literal_in}
use Rattle.refute_check.proofs.children.are_children.Given as goal

abbrev pub invariant-loop-i : goal.invariant-loop-i
invariant-loop-i l =
    (lines : List Line) (branch : List Literal) → AreBranches (shared_atoms l.shared) lines l.earlier → AreNumberedBranch (shared_atoms l.shared) branch → Represents (shared_atoms l.shared) branch l.own
    → AreChildren lines branch (take l.i (map (map (literal_in l.shared)) l.alternatives)) (take l.i l.children)
