-- Closed tableaux (Brown and Smolka 2010), and the tableau of a refutation.
use Rattle.std.specs.Prelude.{ℕ, List, [], ◌∷◌, ◌++◌, Option, Some, None, slice_get, unwrap_or}
use Rattle.stt_core.specs.Typing.{Scope}
use Rattle.tableau_calculus.specs.Literals.{Literal}
use Rattle.tableau_calculus.specs.Witnesses.{Row, with_rows}
use Rattle.tableau_calculus.specs.RuleUses.{principals_of}
use Rattle.tableau_calculus.specs.Rules.{PlainRule, Rule}
use Rattle.tableau_calculus.specs.Accepted.{Within, IsClosedBranch}
use Rattle.tableau_calculus.specs.declared.refutation.Child.{Child}
use Rattle.tableau_calculus.specs.declared.refutation.Child.TheVariants.{Closed, Line as Numbered}
use Rattle.tableau_calculus.specs.declared.refutation.Line.{Line}
use Rattle.tableau_calculus.specs.declared.refutation.Refutation.{Refutation}

-- a leaf, or a rule with its principals and a tableau for each alternative
mutual
  pub data Tableau : Type 0 where
    leaf : Tableau
    node : PlainRule → List Literal → Tableaux → Tableau

  pub data Tableaux : Type 0 where
    none : Tableaux
    more : Tableau → Tableaux → Tableaux

abbrev mutual
  -- by rules over all that is declared, the tableau closes the branch
  pub ClosesIn : Scope → List Row → Tableau → List Literal → Type 0
  ClosesIn scope rows leaf branch = IsClosedBranch branch
  ClosesIn scope rows (node rule principals children) branch =
      (alternatives : List (List Literal))
      × Rule scope rows rule principals alternatives
      × Within principals branch
      × CloseAll scope rows children alternatives branch

  -- each alternative has a tableau that closes the branch with it
  pub CloseAll : Scope → List Row → Tableaux → List (List Literal) → List Literal → Type 0
  CloseAll scope rows none [] branch = Unit {0}
  CloseAll scope rows none (a ∷ as') branch = ⊥
  CloseAll scope rows (more t ts) [] branch = ⊥
  CloseAll scope rows (more t ts) (a ∷ as') branch = ClosesIn scope rows t (a ++ branch) × CloseAll scope rows ts as' branch

-- the tableau closes the branch, over what is declared and the witnesses of these rows
abbrev pub Closes : Scope → List Row → Tableau → List Literal → Type 0
Closes scope rows tableau branch = ClosesIn (with_rows scope rows) rows tableau branch

-- the literals at these places, where the branch has them
abbrev pub literals_at : List Literal → List ℕ → List Literal
literals_at branch [] = []
literals_at branch (i ∷ is) = found (slice_get branch i) (literals_at branch is)
  where
    found : Option Literal → List Literal → List Literal
    found (Some l) ls = l ∷ ls
    found None ls = ls

-- the tableaux of a line's children, where `earlier` has those of the earlier lines
abbrev pub tableaux_of : List Tableau → List Child → Tableaux
tableaux_of earlier [] = none
tableaux_of earlier (Closed ∷ cs) = more leaf (tableaux_of earlier cs)
tableaux_of earlier (Numbered j ∷ cs) = more (unwrap_or (slice_get earlier j) leaf) (tableaux_of earlier cs)

abbrev pub tableau_of_line : List Tableau → Line → Tableau
tableau_of_line earlier line = node line.rule (literals_at line.branch (principals_of line.rule)) (tableaux_of earlier line.children)

-- the tableau of the last line, where `last` and `earlier` have those of the lines before
abbrev pub tableau_after : Tableau → List Tableau → List Line → Tableau
tableau_after last earlier [] = last
tableau_after last earlier (line ∷ lines) =
    tableau_after (tableau_of_line earlier line) (earlier ++ tableau_of_line earlier line ∷ []) lines

-- the tableau of a refutation: that of its last line
abbrev pub tableau_of : Refutation → Tableau
tableau_of refutation = tableau_after leaf [] refutation.lines
