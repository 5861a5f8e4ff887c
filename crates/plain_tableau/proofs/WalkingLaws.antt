-- The steps of a walk.
use Rattle.std.proofs.Common.{◌≡◌, ◌<◌, ◌≤◌, ◌+◌, ◌++◌, ℕ, zero, suc, true, false, List, [], ◌∷◌, length, drop, Some, None, refl, sym, ap, ◌∙◌, subst, append_assoc, arith}
use Rattle.std.proofs.lemmas.List.{append-nil}
use Rattle.stt_core.specs.Lambda.{Lambda}
use Rattle.sat_base.specs.declared.literal.SatLit.{SatLit}
use Rattle.tableau_calculus.specs.Kinds.{added}
use Rattle.search_spec.specs.Numbered.{numbers}
use Rattle.plain_tableau.specs.Trees.{TreeInstance, PlainTree, closed, node, PlainTrees, none, more, nodes_in, nodes_in_all}
use Rattle.plain_tableau.specs.Expansion.{is_closed_branch, next_due, Expanded, found, open_at, over, put_under, put_before, Expands, closes, stays_open, is_over, makes, ExpandEach, no_more, open_below, over_below, goes_on}
use Rattle.plain_tableau.specs.Lines.{tree_child, tree_children, lines_for_tree, lines_for_trees}
use Rattle.plain_tableau.specs.Internal.Walking.{with_last, trees_joined, trees_behind, count, Below, with_tree, left_of, made_in, Returns, GoesEach, Goes}

-- one tree more
pub size_last : (ts : PlainTrees SatLit) (t : PlainTree SatLit) → nodes_in_all (with_last ts t) ≡ nodes_in_all ts + nodes_in t
size_last none t = omega arith
size_last (more s ts) t = let rest = size_last ts t in omega (arith, rest)

pub count_last : (ts : PlainTrees SatLit) (t : PlainTree SatLit) → count (with_last ts t) ≡ suc (count ts)
count_last none t = refl
count_last (more s ts) t = ap suc (count_last ts t)

trees_joined_last : (ts : PlainTrees SatLit) (t : PlainTree SatLit) (us : PlainTrees SatLit) → trees_joined (with_last ts t) us ≡ trees_joined ts (more t us)
trees_joined_last none t us = refl
trees_joined_last (more s ts) t us = ap (more s) (trees_joined_last ts t us)

pub trees_joined-none : (ts : PlainTrees SatLit) → trees_joined ts none ≡ ts
trees_joined-none none = refl
trees_joined-none (more t ts) = ap (more t) (trees_joined-none ts)

behind_last : (ts : PlainTrees SatLit) (t : PlainTree SatLit) (r : Expanded SatLit (PlainTrees SatLit)) → trees_behind (with_last ts t) r ≡ trees_behind ts (put_before t r)
behind_last ts t (found us) = ap found (trees_joined_last ts t us)
behind_last ts t (open_at b) = refl
behind_last ts t over = refl

behind_none : (r : Expanded SatLit (PlainTrees SatLit)) → trees_behind none r ≡ r
behind_none (found us) = refl
behind_none (open_at b) = refl
behind_none over = refl

moved : (n k : ℕ) (ts : PlainTrees SatLit) → n ≡ k → tree_children n ts ≡ tree_children k ts
moved n k ts e = ap (λ m. tree_children m ts) e

pub children_last : (n : ℕ) (ts : PlainTrees SatLit) (t : PlainTree SatLit) → tree_children n (with_last ts t) ≡ tree_children n ts ++ tree_child (n + nodes_in_all ts) t ∷ []
children_last n none t = let e : n ≡ n + 0 = omega arith in ap (λ m. tree_child m t ∷ []) e
children_last n (more s ts) t =
    let e : (n + nodes_in s) + nodes_in_all ts ≡ n + (nodes_in s + nodes_in_all ts) = omega arith in
    ap (λ cs. tree_child n s ∷ cs) (children_last (n + nodes_in s) ts t ∙ ap (λ m. tree_children (n + nodes_in s) ts ++ tree_child m t ∷ []) e)

pub children_count : (n : ℕ) (ts : PlainTrees SatLit) → length (tree_children n ts) ≡ count ts
children_count n none = refl
children_count n (more t ts) = ap suc (children_count (n + nodes_in t) ts)

pub lines_last : (atoms : List Lambda) (n : ℕ) (ts : PlainTrees SatLit) (t : PlainTree SatLit) → lines_for_trees atoms n (with_last ts t) ≡ lines_for_trees atoms n ts ++ lines_for_tree atoms (n + nodes_in_all ts) t
lines_last atoms n none t =
    let e : n ≡ n + 0 = omega arith in
    append-nil (lines_for_tree atoms n t) ∙ ap (λ m. lines_for_tree atoms m t) e
lines_last atoms n (more s ts) t =
    let e : (n + nodes_in s) + nodes_in_all ts ≡ n + (nodes_in s + nodes_in_all ts) = omega arith in
    ap (λ ls. lines_for_tree atoms n s ++ ls) (lines_last atoms (n + nodes_in s) ts t ∙ ap (λ m. lines_for_trees atoms (n + nodes_in s) ts ++ lines_for_tree atoms m t) e)
    ∙ sym (append_assoc (lines_for_tree atoms n s) (lines_for_trees atoms (n + nodes_in s) ts) (lines_for_tree atoms ((n + (nodes_in s + nodes_in_all ts))) t))

drop_one : (n : ℕ) (xs : List (List SatLit)) (a : List SatLit) (as' : List (List SatLit)) → drop n xs ≡ a ∷ as' → drop (suc n) xs ≡ as'
drop_one zero [] a as' e = cc
drop_one zero (x ∷ xs) a as' e = cc
drop_one (suc n) [] a as' e = cc
drop_one (suc n) (x ∷ xs) a as' e = drop_one n xs a as' e

-- a new node
abbrev pub new_node : TreeInstance SatLit → List SatLit → Below
new_node i b = record { instance = i; branch = b; done = none }

module _ (used : List (TreeInstance SatLit)) (limit : ℕ) where
  abbrev Each : ℕ → List SatLit → List (List SatLit) → Expanded SatLit (PlainTrees SatLit) → Type 0
  Each made b as' r = ExpandEach numbers used limit made b as' r

  -- what comes of a node's alternatives, by what comes of the first of those that are left
  enter : (gs : List Below) (g : Below) (a : List SatLit) (as' : List (List SatLit)) → left_of g ≡ a ∷ as' → (o r : Expanded SatLit (PlainTree SatLit)) → Expands numbers used limit (made_in (g ∷ gs)) (added numbers g.branch a) o → Returns used limit (g ∷ gs) o r → GoesEach used limit gs g r
  enter gs g a as' e (open_at b) r h back =
      (open_at b, subst (λ ls. Each (made_in (g ∷ gs)) g.branch ls (open_at b)) (sym e) (open_below (made_in (g ∷ gs)) g.branch a as' b h), ended gs back)
    where
      ended : (fs : List Below) → r ≡ open_at b → Returns used limit fs (open_at b) r
      ended [] is = sym is
      ended (f ∷ fs) is = is
  enter gs g a as' e over r h back =
      (over, subst (λ ls. Each (made_in (g ∷ gs)) g.branch ls over) (sym e) (over_below (made_in (g ∷ gs)) g.branch a as' h), ended gs back)
    where
      ended : (fs : List Below) → r ≡ over → Returns used limit fs over r
      ended [] is = sym is
      ended (f ∷ fs) is = is
  enter gs g a as' e (found t) r h back =
      let os = back.0 in
      let left : left_of (with_tree g t) ≡ as' = ap (λ n. drop n g.instance.alternatives) (count_last g.done t) ∙ drop_one (count g.done) g.instance.alternatives a as' e in
      let made : suc (made_in gs + nodes_in_all (with_last g.done t)) ≡ made_in (g ∷ gs) + nodes_in t = let s = size_last g.done t in omega (arith, s) in
      let each = subst (λ n. Each n g.branch as' os) made (subst (λ ls. Each (suc (made_in gs + nodes_in_all (with_last g.done t))) g.branch ls os) left back.1) in (
        put_before t os,
        subst (λ ls. Each (made_in (g ∷ gs)) g.branch ls (put_before t os)) (sym e) (goes_on (made_in (g ∷ gs)) g.branch a as' t os h each),
        subst (λ x. Returns used limit gs (put_under g.instance g.branch x) r) (behind_last g.done t os) back.2,
      )

  -- a closed alternative
  pub close_child : (gs : List Below) (g : Below) (a : List SatLit) (as' : List (List SatLit)) → left_of g ≡ a ∷ as' → is_closed_branch numbers (added numbers g.branch a) ≡ true → (r : Expanded SatLit (PlainTree SatLit)) → GoesEach used limit gs (with_tree g closed) r → GoesEach used limit gs g r
  close_child gs g a as' e shut r back = enter gs g a as' e (found closed) r (closes (made_in (g ∷ gs)) (added numbers g.branch a) shut) back

  -- an alternative to be expanded
  pub open_child : (gs : List Below) (g : Below) (a : List SatLit) (as' : List (List SatLit)) → left_of g ≡ a ∷ as' → (r : Expanded SatLit (PlainTree SatLit)) → Goes used limit (g ∷ gs) (added numbers g.branch a) r → GoesEach used limit gs g r
  open_child gs g a as' e r h = enter gs g a as' e h.0 r h.1 h.2

  -- a node is made
  pub make_node : (gs : List Below) (b : List SatLit) (i : TreeInstance SatLit) → is_closed_branch numbers b ≡ false → next_due numbers used b ≡ Some i → made_in gs < limit → (r : Expanded SatLit (PlainTree SatLit)) → GoesEach used limit gs (new_node i b) r → Goes used limit gs b r
  make_node gs b i is_open is fewer r h =
      let os = h.0 in
      let made : suc (made_in gs + 0) ≡ suc (made_in gs) = omega arith in (
        put_under i b os,
        makes (made_in gs) b i os is_open is fewer (subst (λ n. Each n b i.alternatives os) made h.1),
        subst (λ x. Returns used limit gs (put_under i b x) r) (behind_none os) h.2,
      )

  -- an open branch, and too many nodes
  pub ends_open : (gs : List Below) (b : List SatLit) → is_closed_branch numbers b ≡ false → next_due numbers used b ≡ None → Goes used limit gs b (open_at b)
  ends_open gs b is_open is = (open_at b, stays_open (made_in gs) b is_open is, ended gs)
    where
      ended : (fs : List Below) → Returns used limit fs (open_at b) (open_at b)
      ended [] = refl
      ended (f ∷ fs) = refl

  pub ends_over : (gs : List Below) (b : List SatLit) (i : TreeInstance SatLit) → is_closed_branch numbers b ≡ false → next_due numbers used b ≡ Some i → limit ≤ made_in gs → Goes used limit gs b over
  ends_over gs b i is_open is many = (over, is_over (made_in gs) b i is_open is many, ended gs)
    where
      ended : (fs : List Below) → Returns used limit fs over over
      ended [] = refl
      ended (f ∷ fs) = refl

  -- a node all of whose alternatives have their trees
  finished : (gs : List Below) (g : Below) → left_of g ≡ [] → (r : Expanded SatLit (PlainTree SatLit)) → Returns used limit gs (found (node g.instance g.branch g.done)) r → GoesEach used limit gs g r
  finished gs g e r h = (
    found none,
    subst (λ ls. Each (made_in (g ∷ gs)) g.branch ls (found none)) (sym e) (no_more (made_in (g ∷ gs)) g.branch),
    subst (λ ts. Returns used limit gs (found (node g.instance g.branch ts)) r) (sym (trees_joined-none g.done)) h,
  )

  pub finish_whole : (start : List SatLit) (g : Below) → left_of g ≡ [] → ((r : Expanded SatLit (PlainTree SatLit)) → GoesEach used limit [] g r → Expands numbers used limit 0 start r) → Expands numbers used limit 0 start (found (node g.instance g.branch g.done))
  finish_whole start g e whole = whole (found (node g.instance g.branch g.done)) (finished [] g e _ refl)

  pub finish_below : (start : List SatLit) (f : Below) (fs : List Below) (g : Below) → left_of g ≡ [] → ((r : Expanded SatLit (PlainTree SatLit)) → GoesEach used limit (f ∷ fs) g r → Expands numbers used limit 0 start r)
      → (r : Expanded SatLit (PlainTree SatLit)) → GoesEach used limit fs (with_tree f (node g.instance g.branch g.done)) r → Expands numbers used limit 0 start r
  finish_below start f fs g e whole r h = whole r (finished (f ∷ fs) g e r h)
