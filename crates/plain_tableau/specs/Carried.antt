-- Expansions in numbers stand for expansions in formulas.
use Rattle.std.specs.Prelude.{ℕ, List, map}
use Rattle.stt_core.specs.Lambda.{Lambda}
use Rattle.tableau_calculus.specs.Literals.{Literal}
use Rattle.sat_base.specs.declared.literal.SatLit.{SatLit}
use Rattle.tableau_calculus.specs.Each.{Each}
use Rattle.search_spec.specs.Numbered.{numbers, IsNumber, AreApart}
use Rattle.tableau_calculus.specs.Kinds.{formulas}
use Rattle.rebuild_spec.specs.Input.{literals_of}
use Rattle.plain_tableau.specs.Trees.{TreeInstance, PlainTree, closed, node, PlainTrees, none, more}
use Rattle.plain_tableau.specs.Expansion.{Expanded, found, open_at, over, Expansion}

-- what stands in numbers, in formulas
abbrev pub instance_in : List Lambda → TreeInstance SatLit → TreeInstance Literal
instance_in atoms i =
    record { rule = i.rule; principals = literals_of atoms i.principals; alternatives = map (literals_of atoms) i.alternatives }

abbrev mutual
  pub tree_in : List Lambda → PlainTree SatLit → PlainTree Literal
  tree_in atoms closed = closed
  tree_in atoms (node i branch ts) = node (instance_in atoms i) (literals_of atoms branch) (trees_in atoms ts)

  pub trees_in : List Lambda → PlainTrees SatLit → PlainTrees Literal
  trees_in atoms none = none
  trees_in atoms (more t ts) = more (tree_in atoms t) (trees_in atoms ts)

abbrev pub result_in : List Lambda → Expanded SatLit (PlainTree SatLit) → Expanded Literal (PlainTree Literal)
result_in atoms (found t) = found (tree_in atoms t)
result_in atoms (open_at b) = open_at (literals_of atoms b)
result_in atoms over = over

-- the literals of the instance have numbers
pub record IsNumberedInstance (atoms : List Lambda) (i : TreeInstance SatLit) : Type 0 where
  pub principals : Each (IsNumber atoms) i.principals
  pub alternatives : Each (Each (IsNumber atoms)) i.alternatives

-- where numbers stand for atoms, and no two of them for one atom, what an expansion comes to in numbers is what it comes to in formulas
abbrev pub NumbersExpandAsFormulas : Type 0
NumbersExpandAsFormulas =
    (atoms : List Lambda) → AreApart atoms
    → (used : List (TreeInstance SatLit)) (limit : ℕ) (start : List SatLit) (r : Expanded SatLit (PlainTree SatLit))
    → Each (IsNumberedInstance atoms) used
    → Each (IsNumber atoms) start
    → Expansion numbers used limit start r
    → Expansion formulas (map (instance_in atoms) used) limit (literals_of atoms start) (result_in atoms r)
