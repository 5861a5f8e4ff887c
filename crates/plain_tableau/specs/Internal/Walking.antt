-- A walk under way: the nodes that aren't written yet, the innermost one first.
use Rattle.std.specs.Prelude.{◌≡◌, ◌+◌, ◌≤◌, ℕ, suc, Bool, true, false, List, [], ◌∷◌, ◌++◌, length, take, drop, Some, slice_get}
use Rattle.stt_core.specs.Lambda.{Lambda}
use Rattle.tableau_calculus.specs.declared.refutation.Line.{Line}
use Rattle.sat_base.specs.declared.literal.SatLit.{SatLit}
use Rattle.search_spec.specs.Numbered.{numbers}
use Rattle.plain_tableau.specs.Trees.{TreeInstance, PlainTree, PlainTrees, none, more, nodes_in, nodes_in_all}
use Rattle.plain_tableau.specs.Expansion.{is_closed_branch, Expanded, found, open_at, over, put_under, Expands, ExpandEach}
use Rattle.plain_tableau.specs.Lines.{tree_children, lines_for_tree, lines_for_trees}
use Rattle.plain_tableau.specs.declared.walk.Frame.{Frame}
use Rattle.plain_tableau.specs.declared.walk.Grown.{Grown}
use Rattle.plain_tableau.specs.declared.walk.Grown.TheVariants.{Whole, Open, Over}

-- the trees with one more behind them, and with what comes of further alternatives
abbrev pub with_last : PlainTrees SatLit → PlainTree SatLit → PlainTrees SatLit
with_last none t = more t none
with_last (more s ts) t = more s (with_last ts t)

abbrev pub trees_joined : PlainTrees SatLit → PlainTrees SatLit → PlainTrees SatLit
trees_joined none us = us
trees_joined (more t ts) us = more t (trees_joined ts us)

abbrev pub trees_behind : PlainTrees SatLit → Expanded SatLit (PlainTrees SatLit) → Expanded SatLit (PlainTrees SatLit)
trees_behind ts (found us) = found (trees_joined ts us)
trees_behind ts (open_at b) = open_at b
trees_behind ts over = over

abbrev pub count : PlainTrees SatLit → ℕ
count none = 0
count (more t ts) = suc (count ts)

-- a node that isn't written yet: its instance, its branch, and the trees of its first alternatives
pub record Below : Type 0 where
  pub instance : TreeInstance SatLit
  pub branch : List SatLit
  pub done : PlainTrees SatLit

abbrev pub with_tree : Below → PlainTree SatLit → Below
with_tree g t = record { instance = g.instance; branch = g.branch; done = with_last g.done t }

-- the alternatives that are left
abbrev pub left_of : Below → List (List SatLit)
left_of g = drop (count g.done) g.instance.alternatives

-- how many nodes were made
abbrev pub made_in : List Below → ℕ
made_in [] = 0
made_in (g ∷ gs) = suc (made_in gs + nodes_in_all g.done)

-- the lines that are written
abbrev pub written : List Lambda → List Below → List Line
written atoms [] = []
written atoms (g ∷ gs) = written atoms gs ++ lines_for_trees atoms (length (written atoms gs)) g.done

module _ (used : List (TreeInstance SatLit)) (limit : ℕ) where
  -- what comes of the whole, where this comes of what the nodes wait for
  abbrev pub Returns : List Below → Expanded SatLit (PlainTree SatLit) → Expanded SatLit (PlainTree SatLit) → Type 0
  Returns [] o r = o ≡ r
  Returns (g ∷ gs) (found t) r =
      (os : Expanded SatLit (PlainTrees SatLit))
      × ExpandEach numbers used limit (suc (made_in gs + nodes_in_all (with_last g.done t))) g.branch (left_of (with_tree g t)) os
      × Returns gs (put_under g.instance g.branch (trees_behind (with_last g.done t) os)) r
  Returns (g ∷ gs) (open_at b) r = r ≡ open_at b
  Returns (g ∷ gs) over r = r ≡ over

  -- what comes of the whole, where the innermost node is to go on with its further alternatives
  abbrev pub GoesEach : List Below → Below → Expanded SatLit (PlainTree SatLit) → Type 0
  GoesEach gs g r =
      (os : Expanded SatLit (PlainTrees SatLit))
      × ExpandEach numbers used limit (suc (made_in gs + nodes_in_all g.done)) g.branch (left_of g) os
      × Returns gs (put_under g.instance g.branch (trees_behind g.done os)) r

  -- what comes of the whole, where the branch is to be expanded
  abbrev pub Goes : List Below → List SatLit → Expanded SatLit (PlainTree SatLit) → Type 0
  Goes gs branch r = (o : Expanded SatLit (PlainTree SatLit)) × Expands numbers used limit (made_in gs) branch o × Returns gs o r

-- the frame is that of the node, where so many lines stand before
pub record IsFrame (used : List (TreeInstance SatLit)) (n : ℕ) (g : Below) (f : Frame) : Type 0 where
  pub instance : slice_get used f.place ≡ Some g.instance
  pub len : f.len ≡ length g.branch
  pub children : f.children ≡ tree_children n g.done

-- the frames are those of the nodes, each of whose branches begins the next one
abbrev pub AreFrames : List (TreeInstance SatLit) → List Lambda → List Below → List Frame → List SatLit → Type 0
AreFrames used atoms [] [] branch = Unit {0}
AreFrames used atoms [] (f ∷ fs) branch = ⊥
AreFrames used atoms (g ∷ gs) [] branch = ⊥
AreFrames used atoms (g ∷ gs) (f ∷ fs) branch =
    IsFrame used (length (written atoms gs)) g f × (take (length g.branch) branch ≡ g.branch) × AreFrames used atoms gs fs g.branch

-- the branch is to be expanded
pub record IsAhead (used : List (TreeInstance SatLit)) (limit : ℕ) (start : List SatLit) (atoms : List Lambda) (made : ℕ)
    (frames : List Frame) (branch : List SatLit) (lines : List Line) : Type 0 where
  pub below : List Below
  pub nodes : AreFrames used atoms below frames branch
  pub is_open : is_closed_branch numbers branch ≡ false
  pub are_lines : lines ≡ written atoms below
  pub count : made ≡ made_in below
  pub whole : (r : Expanded SatLit (PlainTree SatLit)) → Goes used limit below branch r → Expands numbers used limit 0 start r

-- the node of the frame is to go on with its further alternatives
pub record IsBack (used : List (TreeInstance SatLit)) (limit : ℕ) (start : List SatLit) (atoms : List Lambda) (made : ℕ)
    (frames : List Frame) (frame : Frame) (branch : List SatLit) (lines : List Line) : Type 0 where
  pub below : List Below
  pub top : Below
  pub nodes : AreFrames used atoms below frames branch
  pub is_frame : IsFrame used (length (written atoms below)) top frame
  pub is_branch : branch ≡ top.branch
  pub is_open : is_closed_branch numbers branch ≡ false
  pub are_lines : lines ≡ written atoms (top ∷ below)
  pub count : made ≡ made_in (top ∷ below)
  pub whole : (r : Expanded SatLit (PlainTree SatLit)) → GoesEach used limit below top r → Expands numbers used limit 0 start r

-- the whole tree is written
pub record IsWalkDone (used : List (TreeInstance SatLit)) (limit : ℕ) (start : List SatLit) (atoms : List Lambda) (made : ℕ)
    (lines : List Line) : Type 0 where
  pub tree : PlainTree SatLit
  pub expands : Expands numbers used limit 0 start (found tree)
  pub are_lines : lines ≡ lines_for_tree atoms 0 tree
  pub count : made ≡ nodes_in tree

-- the innermost node is to go on, or all is written
abbrev pub WalkStands : List (TreeInstance SatLit) → ℕ → List SatLit → List Lambda → ℕ → List Frame → List SatLit → List Line → Type 0
WalkStands used limit start atoms made [] branch lines = IsWalkDone used limit start atoms made lines
WalkStands used limit start atoms made (f ∷ fs) branch lines = IsBack used limit start atoms made fs f branch lines

-- the frame's node has a child for each alternative
abbrev pub IsFull : List (TreeInstance SatLit) → Frame → Type 0
IsFull used f = (i : TreeInstance SatLit) → slice_get used f.place ≡ Some i → length i.alternatives ≤ length f.children

-- there is a branch that isn't closed, or all is written
abbrev pub WalkGoesOn :
    List (TreeInstance SatLit) → ℕ → List SatLit → List Lambda → ℕ → List Frame → List SatLit → List Line → Bool → Type 0
WalkGoesOn used limit start atoms made frames branch lines true = IsAhead used limit start atoms made frames branch lines
WalkGoesOn used limit start atoms made frames branch lines false = IsWalkDone used limit start atoms made lines

-- what the walk comes to
abbrev pub ComesTo : List (TreeInstance SatLit) → ℕ → List SatLit → List Lambda → List SatLit → List Line → Grown → Type 0
ComesTo used limit start atoms branch lines (Whole n) = IsWalkDone used limit start atoms n lines
ComesTo used limit start atoms branch lines Open = Expands numbers used limit 0 start (open_at branch)
ComesTo used limit start atoms branch lines Over = Expands numbers used limit 0 start over
