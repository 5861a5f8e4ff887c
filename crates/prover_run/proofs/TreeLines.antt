-- A tree in formulas fixes the lines of its refutation.
use Rattle.std.proofs.Common.{◌≡◌, ◌+◌, ◌++◌, ℕ, zero, suc, not, cond, List, [], ◌∷◌, map, Some, slice_get, refl, ap, ap₂, ◌∙◌, subst}
use Rattle.std.specs.List.{position_or_len}
use Rattle.stt_core.specs.Lambda.{Lambda}
use Rattle.tableau_calculus.specs.Each.{Each}
use Rattle.tableau_calculus.specs.Kinds.{same_signed, added}
use Rattle.tableau_calculus.specs.Literals.{Literal}
use Rattle.tableau_calculus.specs.declared.refutation.Child.{Child}
use Rattle.tableau_calculus.specs.declared.refutation.Child.TheVariants.{Closed, Line as Numbered}
use Rattle.tableau_calculus.specs.declared.refutation.Line.{Line}
use Rattle.sat_base.specs.declared.literal.SatLit.{SatLit}
use Rattle.sat_base.specs.Literal.{negated, holds}
use Rattle.search_spec.specs.Numbered.{numbers, literal_at, IsNumber, AreApart}
use Rattle.search_spec.proofs.UnsatLaws.{numbers_stand}
use Rattle.rebuild_spec.specs.Input.{literals_of}
use Rattle.rebuild_spec.specs.Stands.{rule_at_places, place_in}
use Rattle.plain_tableau.specs.Trees.{TreeInstance, PlainTree, closed, node, PlainTrees, none, more, nodes_in, nodes_in_all}
use Rattle.plain_tableau.specs.Expansion.{is_due, Expanded, found, open_at, over, put_under, put_before, Expands, closes, stays_open, is_over, makes, ExpandEach, no_more, open_below, over_below, goes_on, Expansion, at_once, not_at_once, grows}
use Rattle.plain_tableau.specs.Carried.{instance_in, tree_in, trees_in, IsNumberedInstance}
use Rattle.plain_tableau.specs.Lines.{tree_child, tree_children, node_line, lines_for_tree, lines_for_trees}
use Rattle.prover_run.proofs.TreeUses.{added_each}

-- LINES OF FORMULAS

abbrev child_for : ℕ → PlainTree Literal → Child
child_for n closed = Closed
child_for n (node i branch ts) = Numbered (n + nodes_in_all ts)

abbrev children_for : ℕ → PlainTrees Literal → List Child
children_for n none = []
children_for n (more t ts) = child_for n t ∷ children_for (n + nodes_in t) ts

abbrev place_among : List Literal → Literal → ℕ
place_among branch l = position_or_len (same_signed l) branch

abbrev line_for : TreeInstance Literal → List Literal → List Child → Line
line_for i branch children = record { branch = branch; rule = rule_at_places i.rule (map (place_among branch) i.principals); children = children }

abbrev mutual
  pub lines_in : ℕ → PlainTree Literal → List Line
  lines_in n closed = []
  lines_in n (node i branch ts) = lines_in_all n ts ++ line_for i branch (children_for n ts) ∷ []

  lines_in_all : ℕ → PlainTrees Literal → List Line
  lines_in_all n none = []
  lines_in_all n (more t ts) = lines_in n t ++ lines_in_all (n + nodes_in t) ts

module _ (atoms : List Lambda) (apart : AreApart atoms) where
  abbrev Good : SatLit → Type 0
  Good l = IsNumber atoms l

  -- the literals of the tree have numbers
  abbrev mutual
    pub IsNumberedTree : PlainTree SatLit → Type 0
    IsNumberedTree closed = Unit {0}
    IsNumberedTree (node i branch ts) = IsNumberedInstance atoms i × Each Good branch × AreNumberedTrees ts

    AreNumberedTrees : PlainTrees SatLit → Type 0
    AreNumberedTrees none = Unit {0}
    AreNumberedTrees (more t ts) = IsNumberedTree t × AreNumberedTrees ts

  -- NUMBERS OF NODES

  mutual
    pub size_in : (t : PlainTree SatLit) → nodes_in (tree_in atoms t) ≡ nodes_in t
    size_in closed = refl
    size_in (node i b ts) = ap suc (sizes_in ts)

    sizes_in : (ts : PlainTrees SatLit) → nodes_in_all (trees_in atoms ts) ≡ nodes_in_all ts
    sizes_in none = refl
    sizes_in (more t ts) = ap₂ (λ x y. x + y) (size_in t) (sizes_in ts)

  child_same : (n : ℕ) (t : PlainTree SatLit) → child_for n (tree_in atoms t) ≡ tree_child n t
  child_same n closed = refl
  child_same n (node i branch ts) = ap (λ k. Numbered (n + k)) (sizes_in ts)

  children_same : (n : ℕ) (ts : PlainTrees SatLit) → children_for n (trees_in atoms ts) ≡ tree_children n ts
  children_same n none = refl
  children_same n (more t ts) =
      ap₂ (λ x xs. x ∷ xs) (child_same n t) (ap (λ k. children_for (n + k) (trees_in atoms ts)) (size_in t) ∙ children_same (n + nodes_in t) ts)

  -- PLACES

  place_same : (branch : List SatLit) (l : SatLit) → Each Good branch → Good l → place_among (literals_of atoms branch) (literal_at atoms l) ≡ place_in branch l
  place_same [] l g h = refl
  place_same (k ∷ branch) l g h = ap₂ (λ x n. cond (not x) (1 + n) 0) ((numbers_stand atoms apart).sames l k h g.0) (place_same branch l g.1 h)

  places_same : (branch ls : List SatLit) → Each Good branch → Each Good ls → map (place_among (literals_of atoms branch)) (literals_of atoms ls) ≡ map (place_in branch) ls
  places_same branch [] g h = refl
  places_same branch (l ∷ ls) g h = ap₂ (λ x xs. x ∷ xs) (place_same branch l g h.0) (places_same branch ls g h.1)

  line_same : (i : TreeInstance SatLit) (branch : List SatLit) (cs ds : List Child) → IsNumberedInstance atoms i → Each Good branch → cs ≡ ds → line_for (instance_in atoms i) (literals_of atoms branch) cs ≡ node_line atoms i branch ds
  line_same i branch cs ds g h e =
      let places = places_same branch i.principals h g.principals in
      λ k. record { branch = literals_of atoms branch; rule = rule_at_places i.rule (places k); children = e k }

  mutual
    pub lines_same : (n : ℕ) (t : PlainTree SatLit) → IsNumberedTree t → lines_in n (tree_in atoms t) ≡ lines_for_tree atoms n t
    lines_same n closed g = refl
    lines_same n (node i branch ts) g = ap₂ (λ xs x. xs ++ x ∷ []) (lines_all_same n ts g.2) (line_same i branch (children_for n (trees_in atoms ts)) (tree_children n ts) g.0 g.1 (children_same n ts))

    lines_all_same : (n : ℕ) (ts : PlainTrees SatLit) → AreNumberedTrees ts → lines_in_all n (trees_in atoms ts) ≡ lines_for_trees atoms n ts
    lines_all_same n none g = refl
    lines_all_same n (more t ts) g =
        ap₂ (λ xs ys. xs ++ ys) (lines_same n t g.0) (ap (λ k. lines_in_all (n + k) (trees_in atoms ts)) (size_in t) ∙ lines_all_same (n + nodes_in t) ts g.1)

  -- WHAT EXPANSIONS COME TO

  each_held : {A : Type 0} (P : A → Type 0) (xs : List A) (n : ℕ) (x : A) → Each P xs → slice_get xs n ≡ Some x → P x
  each_held P [] n x h e = cc
  each_held P (y ∷ xs) zero x h e = let same : y ≡ x = cc in subst P same h.0
  each_held P (y ∷ xs) (suc n) x h e = each_held P xs n x h.1 e

  abbrev OfFound : Expanded SatLit (PlainTree SatLit) → Type 0
  OfFound (found t) = IsNumberedTree t
  OfFound (open_at b) = Unit {0}
  OfFound over = Unit {0}

  abbrev OfAll : Expanded SatLit (PlainTrees SatLit) → Type 0
  OfAll (found ts) = AreNumberedTrees ts
  OfAll (open_at b) = Unit {0}
  OfAll over = Unit {0}

  under_numbered : (i : TreeInstance SatLit) (b : List SatLit) (r : Expanded SatLit (PlainTrees SatLit)) → IsNumberedInstance atoms i → Each Good b → OfAll r → OfFound (put_under i b r)
  under_numbered i b (found ts) g h k = (g, h, k)
  under_numbered i b (open_at c) g h k = tt
  under_numbered i b over g h k = tt

  before_numbered : (t : PlainTree SatLit) (r : Expanded SatLit (PlainTrees SatLit)) → IsNumberedTree t → OfAll r → OfAll (put_before t r)
  before_numbered t (found ts) g h = (g, h)
  before_numbered t (open_at c) g h = tt
  before_numbered t over g h = tt

  module _ (used : List (TreeInstance SatLit)) (gu : Each (IsNumberedInstance atoms) used) (limit : ℕ) where
    mutual
      grown_numbered : (made : ℕ) (b : List SatLit) (r : Expanded SatLit (PlainTree SatLit)) → Each Good b → Expands numbers used limit made b r → OfFound r
      grown_numbered made b r g (closes m c e) = tt
      grown_numbered made b r g (stays_open m c e n) = tt
      grown_numbered made b r g (is_over m c i e n l) = tt
      grown_numbered made b r g (makes m c i q e n l each) =
          let gi = each_held (IsNumberedInstance atoms) used (position_or_len (is_due numbers b) used) i gu n in
          under_numbered i b q gi g (each_numbered (suc made) b i.alternatives q g gi.alternatives each)

      each_numbered : (made : ℕ) (b : List SatLit) (as' : List (List SatLit)) (r : Expanded SatLit (PlainTrees SatLit)) → Each Good b → Each (Each Good) as' → ExpandEach numbers used limit made b as' r → OfAll r
      each_numbered made b as' r g ga (no_more m c) = tt
      each_numbered made b as' r g ga (open_below m c a bs x e) = tt
      each_numbered made b as' r g ga (over_below m c a bs e) = tt
      each_numbered made b as' r g ga (goes_on m c a bs t q e each) =
          before_numbered t q (grown_numbered made (added numbers b a) (found t) (added_each Good b a g ga.0) e) (each_numbered (made + nodes_in t) b bs q g ga.1 each)

    result_numbered : (start : List SatLit) (r : Expanded SatLit (PlainTree SatLit)) → Each Good start → Expansion numbers used limit start r → OfFound r
    result_numbered start r g (at_once l e h) =
        let good = each_held Good start (position_or_len (λ k. holds start (negated k)) start) l g e in
        (record { principals = (good, (good, tt)); alternatives = tt }, g, tt)
    result_numbered start r g (not_at_once l e h) = tt
    result_numbered start r g (grows q e h) = grown_numbered 0 start q g h

    -- the tree that an expansion of numbered instances comes to is numbered
    pub found_numbered : (start : List SatLit) (t : PlainTree SatLit) → Each Good start → Expansion numbers used limit start (found t) → IsNumberedTree t
    found_numbered start t g e = result_numbered start (found t) g e
