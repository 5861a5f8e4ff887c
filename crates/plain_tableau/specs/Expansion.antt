-- The expansion of instances into a tableau without cut: depth first, alternatives from left to right, with a limit on the nodes. The
-- instances stand in a list, over literals of any kind.
use Rattle.std.specs.Prelude.{◌≡◌, ◌+◌, ◌<◌, ◌≤◌, ◌&&◌, not, ℕ, suc, Bool, true, false, List, [], ◌∷◌, Option, Some, None, slice_get}
use Rattle.std.specs.List.{list_any, list_all, position_or_len}
use Rattle.tableau_calculus.specs.declared.rule_use.RuleUse.TheVariants.{AtTwo}
use Rattle.tableau_calculus.specs.declared.rule_use.TwoPlaces.TheVariants.{Close}
use Rattle.tableau_calculus.specs.Kinds.{Kind, has, added}
use Rattle.plain_tableau.specs.Trees.{TreeInstance, PlainTree, closed, node, PlainTrees, none, more, nodes_in}

-- whether the branch holds a literal and its negation
abbrev pub is_closed_branch : {L : Type 0} → Kind L → List L → Bool
is_closed_branch kind branch = list_any (λ l. has kind branch (kind.opposite l)) branch

-- whether the branch holds all of the literals
abbrev pub has_all : {L : Type 0} → Kind L → List L → List L → Bool
has_all kind branch ls = list_all (has kind branch) ls

-- whether the branch holds the instance's principals, and none of its alternatives wholly
abbrev pub is_due : {L : Type 0} → Kind L → List L → TreeInstance L → Bool
is_due kind branch i = has_all kind branch i.principals && not (list_any (has_all kind branch) i.alternatives)

-- the next instance: the first one that is due
abbrev pub next_due : {L : Type 0} → Kind L → List (TreeInstance L) → List L → Option (TreeInstance L)
next_due kind used branch = slice_get used (position_or_len (is_due kind branch) used)

-- What comes of an expansion: what was looked for, the first open branch, or that a node more than the limit would be made.
pub data Expanded (L T : Type 0) : Type 0 where
  found : T → Expanded L T
  open_at : List L → Expanded L T
  over : Expanded L T

-- a node over what comes of its alternatives
abbrev pub put_under : {L : Type 0} → TreeInstance L → List L → Expanded L (PlainTrees L) → Expanded L (PlainTree L)
put_under i branch (found ts) = found (node i branch ts)
put_under i branch (open_at b) = open_at b
put_under i branch over = over

-- a tree before what comes of the further alternatives
abbrev pub put_before : {L : Type 0} → PlainTree L → Expanded L (PlainTrees L) → Expanded L (PlainTrees L)
put_before t (found ts) = found (more t ts)
put_before t (open_at b) = open_at b
put_before t over = over

mutual
  -- what comes of a branch, where so many nodes were made before
  pub data Expands {L : Type 0} (kind : Kind L) (used : List (TreeInstance L)) (limit : ℕ) : ℕ → List L → Expanded L (PlainTree L) → Type 0
    where
      closes : (made : ℕ) (branch : List L) → is_closed_branch kind branch ≡ true → Expands kind used limit made branch (found closed)
      stays_open :
          (made : ℕ) (branch : List L)
          → is_closed_branch kind branch ≡ false
          → next_due kind used branch ≡ None
          → Expands kind used limit made branch (open_at branch)
      is_over :
          (made : ℕ) (branch : List L) (i : TreeInstance L)
          → is_closed_branch kind branch ≡ false
          → next_due kind used branch ≡ Some i
          → limit ≤ made
          → Expands kind used limit made branch over
      makes :
          (made : ℕ) (branch : List L) (i : TreeInstance L) (r : Expanded L (PlainTrees L))
          → is_closed_branch kind branch ≡ false
          → next_due kind used branch ≡ Some i
          → made < limit
          → ExpandEach kind used limit (suc made) branch i.alternatives r
          → Expands kind used limit made branch (put_under i branch r)

  -- what comes of a branch with each of the alternatives, one after the other
  pub data ExpandEach {L : Type 0} (kind : Kind L) (used : List (TreeInstance L)) (limit : ℕ) : ℕ → List L → List (List L) → Expanded L
      (PlainTrees L) → Type 0 where
    no_more : (made : ℕ) (branch : List L) → ExpandEach kind used limit made branch [] (found none)
    open_below :
        (made : ℕ) (branch a : List L) (as' : List (List L)) (b : List L)
        → Expands kind used limit made (added kind branch a) (open_at b)
        → ExpandEach kind used limit made branch (a ∷ as') (open_at b)
    over_below :
        (made : ℕ) (branch a : List L) (as' : List (List L))
        → Expands kind used limit made (added kind branch a) over
        → ExpandEach kind used limit made branch (a ∷ as') over
    goes_on :
        (made : ℕ) (branch a : List L) (as' : List (List L)) (t : PlainTree L) (r : Expanded L (PlainTrees L))
        → Expands kind used limit made (added kind branch a) (found t)
        → ExpandEach kind used limit (made + nodes_in t) branch as' r
        → ExpandEach kind used limit made branch (a ∷ as') (put_before t r)

-- the first literal of the branch whose negation the branch holds too
abbrev pub first_clash : {L : Type 0} → Kind L → List L → Option L
first_clash kind branch = slice_get branch (position_or_len (λ l. has kind branch (kind.opposite l)) branch)

-- the instance on which a literal and its negation close each other
abbrev pub closing : {L : Type 0} → Kind L → L → TreeInstance L
closing kind l = record { rule = AtTwo Close 0 1; principals = l ∷ kind.opposite l ∷ []; alternatives = [] }

-- what comes of a start: where it is closed itself, one node on which its first pair closes it
pub data Expansion {L : Type 0} (kind : Kind L) (used : List (TreeInstance L)) (limit : ℕ) (start : List L) : Expanded L (PlainTree L) →
    Type 0 where
  at_once :
      (l : L) → first_clash kind start ≡ Some l → 0 < limit → Expansion kind used limit start (found (node (closing kind l) start none))
  not_at_once : (l : L) → first_clash kind start ≡ Some l → limit ≡ 0 → Expansion kind used limit start over
  grows :
      (r : Expanded L (PlainTree L)) → first_clash kind start ≡ None → Expands kind used limit 0 start r → Expansion kind used limit start r
