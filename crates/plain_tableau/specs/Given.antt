-- What is right of what is expanded.
use Rattle.std.specs.Prelude.{◌≡◌, false, List, map, Contains}
use Rattle.std.specs.List.{All}
use Rattle.stt_core.specs.Lambda.{Lambda}
use Rattle.stt_core.specs.Typing.{Scope}
use Rattle.tableau_calculus.specs.Literals.{plus, IsLiteral}
use Rattle.tableau_calculus.specs.Witnesses.{Row, with_rows, IsTable}
use Rattle.tableau_calculus.specs.Rules.{Rule}
use Rattle.tableau_calculus.specs.CutFree.{is_cut_use}
use Rattle.sat_base.specs.declared.literal.SatLit.{SatLit}
use Rattle.rebuild_spec.specs.Input.{literals_of}
use Rattle.plain_tableau.specs.Trees.{TreeInstance}

-- the instance is one of its rule, which isn't the cut
pub record IsGivenInstance (scope : Scope) (rows : List Row) (atoms : List Lambda) (i : TreeInstance SatLit) : Type 0 where
  pub fits : Rule scope rows i.rule (literals_of atoms i.principals) (map (literals_of atoms) i.alternatives)
  pub no_cut : is_cut_use i.rule ≡ false

-- the rows are a witness table, the atoms are formulas over it, and the instances are right
pub record AreInstancesGiven (scope : Scope) (rows : List Row) (atoms : List Lambda) (used : List (TreeInstance SatLit)) : Type 0 where
  pub table : IsTable scope rows
  pub formulas : (t : Lambda) → Contains atoms t → IsLiteral (with_rows scope rows) (plus t)
  pub instances : All (IsGivenInstance (with_rows scope rows) rows atoms) used
