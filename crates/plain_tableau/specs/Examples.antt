-- Worked examples: what is used, and the trees that it expands to.
use Rattle.std.specs.Prelude.{List, [], ◌∷◌}
use Rattle.stt_core.specs.Lambda.{witness, Lambda, bound, constant, lam, eq, every}
use Rattle.tableau_calculus.specs.Literals.{plus, minus}
use Rattle.tableau_calculus.specs.Witnesses.{Row}
use Rattle.tableau_calculus.specs.declared.rule_use.RuleUse.TheVariants.{AtOne}
use Rattle.tableau_calculus.specs.declared.rule_use.OnePlace.TheVariants.{Refl, FunNeg, AllNeg}
use Rattle.tableau_calculus.specs.declared.refutation.Child.TheVariants.{Closed, Line as Numbered}
use Rattle.tableau_calculus.specs.declared.refutation.Line.{Line}
use Rattle.tableau_calculus.specs.declared.refutation.Refutation.{Refutation}
use Rattle.sat_base.specs.declared.literal.SatLit.{SatLit}
use Rattle.search_spec.specs.Numbered.{numbers}
use Rattle.rebuild_spec.specs.Examples.{yes, no, individual_type, pointwise_a0, pointwise_a1}
use Rattle.plain_tableau.specs.Trees.{TreeInstance, PlainTree, closed, node, none, more}
use Rattle.plain_tableau.specs.Expansion.{found, open_at, over, Expansion}
use Rattle.plain_tableau.specs.Lines.{IsOfTree}

-- `r.p`: the conjecture that each individual is itself. A node for the witness, and one for the equation.
abbrev pub self_predicate : Lambda
self_predicate = lam individual_type (eq individual_type (bound 0) (bound 0))

abbrev pub self_a0 : Lambda
self_a0 = every individual_type self_predicate

abbrev pub self_a1 : Lambda
self_a1 = eq individual_type (constant (witness 0)) (constant (witness 0))

abbrev pub self_rows : List Row
self_rows = record { type = individual_type; predicate = self_predicate } ∷ []

abbrev pub self_i0 : TreeInstance SatLit
self_i0 = record { rule = AtOne AllNeg 0; principals = no 0 ∷ []; alternatives = (no 1 ∷ []) ∷ [] }

abbrev pub self_i1 : TreeInstance SatLit
self_i1 = record { rule = AtOne Refl 0; principals = no 1 ∷ []; alternatives = [] }

abbrev pub self_used : List (TreeInstance SatLit)
self_used = self_i0 ∷ self_i1 ∷ []

abbrev pub self_tree : PlainTree SatLit
self_tree = node self_i0 (no 0 ∷ []) (more (node self_i1 (no 0 ∷ no 1 ∷ []) none) none)

abbrev pub self_lines : List Line
self_lines =
    record { branch = minus self_a0 ∷ minus self_a1 ∷ []; rule = AtOne Refl 1; children = [] }
    ∷ record { branch = minus self_a0 ∷ []; rule = AtOne AllNeg 0; children = Numbered 0 ∷ [] } ∷ []

abbrev pub self_refutation : Refutation
self_refutation = record { witnesses = self_rows; lines = self_lines }

-- two nodes are enough, one isn't, and without the equation the branch stays open
abbrev pub SelfExpands : Type 0
SelfExpands =
    Expansion numbers self_used 2 (no 0 ∷ []) (found self_tree)
    × IsOfTree (self_a0 ∷ self_a1 ∷ []) self_rows self_tree self_refutation
    × Expansion numbers self_used 1 (no 0 ∷ []) over
    × Expansion numbers (self_i0 ∷ []) 2 (no 0 ∷ []) (open_at (no 0 ∷ no 1 ∷ []))

-- `pointwise.p`: f and g agree everywhere, with the conjecture that they are equal. One node, whose alternative is closed.
abbrev pub pointwise_instance : TreeInstance SatLit
pointwise_instance = record { rule = AtOne FunNeg 0; principals = no 1 ∷ []; alternatives = (no 0 ∷ []) ∷ [] }

abbrev pub pointwise_tree : PlainTree SatLit
pointwise_tree = node pointwise_instance (yes 0 ∷ no 1 ∷ []) (more closed none)

abbrev pub pointwise_tree_refutation : Refutation
pointwise_tree_refutation =
    record {
      witnesses = [];
      lines = record { branch = plus pointwise_a0 ∷ minus pointwise_a1 ∷ []; rule = AtOne FunNeg 1; children = Closed ∷ [] } ∷ [];
    }

abbrev pub PointwiseExpands : Type 0
PointwiseExpands =
    Expansion numbers (pointwise_instance ∷ []) 10 (yes 0 ∷ no 1 ∷ []) (found pointwise_tree)
    × IsOfTree (pointwise_a0 ∷ pointwise_a1 ∷ []) [] pointwise_tree pointwise_tree_refutation

-- the worked examples expand as they are to
abbrev pub ExamplesAreExpanded : Type 0
ExamplesAreExpanded = SelfExpands × PointwiseExpands
