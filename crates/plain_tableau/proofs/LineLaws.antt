-- The lines of a tree that closes its branch are right.
use Rattle.std.proofs.Common.{◌≡◌, ◌+◌, ℕ, List, [], ◌∷◌, ◌++◌, map, length, Some, slice_get, Contains, refl, sym, ap, ap₂, ◌∙◌, subst, append_assoc, length-append, arith}
use Rattle.std.proofs.lemmas.List.{append-nil}
use Rattle.stt_core.specs.Lambda.{Lambda}
use Rattle.stt_core.specs.Typing.{Scope}
use Rattle.tableau_calculus.specs.Literals.{Literal, plus, IsLiteral}
use Rattle.tableau_calculus.specs.Witnesses.{Row}
use Rattle.tableau_calculus.specs.Accepted.{Within, ClosesBy, AreChildren, IsRightLine, AreRightAfter}
use Rattle.tableau_calculus.specs.declared.refutation.Child.TheVariants.{Line as Numbered}
use Rattle.tableau_calculus.specs.declared.refutation.Line.{Line}
use Rattle.sat_base.specs.declared.literal.SatLit.{SatLit}
use Rattle.tableau_calculus.specs.Kinds.{added}
use Rattle.search_spec.specs.Numbered.{numbers}
use Rattle.rebuild_spec.specs.Input.{literals_of}
use Rattle.rebuild_spec.specs.Stands.{rule_at_places, place_in}
use Rattle.rebuild_spec.proofs.FlatLaws.{typed_branch}
use Rattle.rebuild_spec.proofs.PlacedLaws.{fits_typed, instance_placed}
use Rattle.plain_tableau.specs.Trees.{TreeInstance, PlainTree, closed, node, PlainTrees, none, more, nodes_in, nodes_in_all}
use Rattle.plain_tableau.specs.Lines.{tree_child, tree_children, node_line, lines_for_tree, lines_for_trees}
use Rattle.plain_tableau.proofs.ListLaws.{get_middle}
use Rattle.plain_tableau.proofs.BranchLaws.{added_within, added_closes, each_held}
use Rattle.plain_tableau.proofs.GrownLaws.{IsGrown, AreGrown}

module _ (atoms : List Lambda) where
  mutual
    -- a tree has a line for each node
    pub count : (n : ℕ) (t : PlainTree SatLit) → length (lines_for_tree atoms n t) ≡ nodes_in t
    count n closed = refl
    count n (node i b ts) =
        let rest = count_all n ts in
        length-append (lines_for_trees atoms n ts) (node_line atoms i b (tree_children n ts) ∷ []) ∙ omega (arith, rest)

    pub count_all : (n : ℕ) (ts : PlainTrees SatLit) → length (lines_for_trees atoms n ts) ≡ nodes_in_all ts
    count_all n none = refl
    count_all n (more t ts) =
        length-append (lines_for_tree atoms n t) (lines_for_trees atoms (n + nodes_in t) ts) ∙ ap₂ (λ x y. x + y) (count n t) (count_all (n + nodes_in t) ts)

  pub count_behind : (front : List Line) (n : ℕ) (t : PlainTree SatLit) → length front ≡ n → length (front ++ lines_for_tree atoms n t) ≡ n + nodes_in t
  count_behind front n t e = length-append front (lines_for_tree atoms n t) ∙ ap₂ (λ x y. x + y) e (count n t)

-- right lines behind right lines
right-append : (scope : Scope) (rows : List Row) (earlier front back : List Line) → AreRightAfter scope rows earlier front → AreRightAfter scope rows (earlier ++ front) back → AreRightAfter scope rows earlier (front ++ back)
right-append scope rows earlier [] back h k = subst (λ ls. AreRightAfter scope rows ls back) (append-nil earlier) k
right-append scope rows earlier (l ∷ front) back h k =
    (h.0, right-append scope rows (earlier ++ l ∷ []) front back h.1 (subst (λ ls. AreRightAfter scope rows ls back) (sym (append_assoc earlier (l ∷ []) front)) k))

module _ (scope : Scope) (rows : List Row) (atoms : List Lambda) where
  -- the line of a node closes what its branch is within
  node_closes : (front : List Line) (n : ℕ) → length front ≡ n → (i : TreeInstance SatLit) (b : List SatLit) (ts : PlainTrees SatLit) (back : List Line) (branch : List Literal) → Within (literals_of atoms b) branch → ClosesBy (front ++ (lines_for_tree atoms n (node i b ts) ++ back)) branch (Numbered (n + nodes_in_all ts))
  node_closes front n e i b ts back branch within =
      let before = front ++ lines_for_trees atoms n ts in
      let line = node_line atoms i b (tree_children n ts) in
      let counted : length before ≡ n + nodes_in_all ts = length-append front (lines_for_trees atoms n ts) ∙ ap₂ (λ x y. x + y) e (count_all atoms n ts) in
      let there : slice_get (before ++ line ∷ back) (n + nodes_in_all ts) ≡ Some line = get_middle before line back (n + nodes_in_all ts) counted in
      let same : before ++ line ∷ back ≡ front ++ (lines_for_tree atoms n (node i b ts) ++ back) =
      append_assoc front (lines_for_trees atoms n ts) (line ∷ back) ∙ ap (λ ls. front ++ ls) (sym (append_assoc (lines_for_trees atoms n ts) (line ∷ []) back)) in
      (line, subst (λ ls. slice_get ls (n + nodes_in_all ts) ≡ Some line) same there, within)

  child_closes : (front : List Line) (n : ℕ) → length front ≡ n → (t : PlainTree SatLit) (back : List Line) (a b : List SatLit) → IsGrown scope rows atoms t (added numbers b a) → ClosesBy (front ++ (lines_for_tree atoms n t ++ back)) (literals_of atoms a ++ literals_of atoms b) (tree_child n t)
  child_closes front n e closed back a b h = added_closes atoms b a h
  child_closes front n e (node i c ts) back a b h =
      node_closes front n e i c ts back (literals_of atoms a ++ literals_of atoms b)
      (subst (λ x. Within (literals_of atoms x) (literals_of atoms a ++ literals_of atoms b)) (sym h.0) (added_within atoms b a))

  children_close : (front : List Line) (n : ℕ) → length front ≡ n → (ts : PlainTrees SatLit) (as' : List (List SatLit)) (back : List Line) (b : List SatLit) → AreGrown scope rows atoms ts as' b → AreChildren (front ++ (lines_for_trees atoms n ts ++ back)) (literals_of atoms b) (map (literals_of atoms) as') (tree_children n ts)
  children_close front n e none [] back b h = tt
  children_close front n e none (a ∷ as') back b h = absurd h
  children_close front n e (more t ts) [] back b h = absurd h
  children_close front n e (more t ts) (a ∷ as') back b h =
      let m = n + nodes_in t in
      let first = lines_for_tree atoms n t in
      let rest = lines_for_trees atoms m ts in
      let all = front ++ ((first ++ rest) ++ back) in
      let one : front ++ (first ++ (rest ++ back)) ≡ all = ap (λ ls. front ++ ls) (sym (append_assoc first rest back)) in
      let other : (front ++ first) ++ (rest ++ back) ≡ all = append_assoc front first (rest ++ back) ∙ one in (
        subst (λ ls. ClosesBy ls (literals_of atoms a ++ literals_of atoms b) (tree_child n t)) one (child_closes front n e t (rest ++ back) a b h.0),
        subst (λ ls. AreChildren ls (literals_of atoms b) (map (literals_of atoms) as') (tree_children m ts)) other (children_close (front ++ first) m (count_behind atoms front n t e) ts as' back b h.1),
      )

  module _ (formulas : (t : Lambda) → Contains atoms t → IsLiteral scope (plus t)) where
    node_right : (front : List Line) (n : ℕ) → length front ≡ n → (i : TreeInstance SatLit) (b : List SatLit) (ts : PlainTrees SatLit) → IsGrown scope rows atoms (node i b ts) b → IsRightLine scope rows (front ++ lines_for_trees atoms n ts) (node_line atoms i b (tree_children n ts))
    node_right front n e i b ts h =
        let alternatives = map (literals_of atoms) i.alternatives in
        let instance = instance_placed scope rows atoms b i.principals i.rule alternatives h.1.fits (each_held b i.principals h.2) in
        record {
          typed = (typed_branch scope rows atoms formulas b, fits_typed scope rows (rule_at_places i.rule (map (place_in b) i.principals)) instance.principals alternatives instance.fits);
          alternatives = alternatives;
          instance = instance;
          children = subst (λ ls. AreChildren (front ++ ls) (literals_of atoms b) alternatives (tree_children n ts)) (append-nil (lines_for_trees atoms n ts)) (children_close front n e ts i.alternatives [] b h.3);
        }

    mutual
      pub lines_right : (front : List Line) (n : ℕ) → length front ≡ n → (t : PlainTree SatLit) (b : List SatLit) → IsGrown scope rows atoms t b → AreRightAfter scope rows front (lines_for_tree atoms n t)
      lines_right front n e closed b h = tt
      lines_right front n e (node i c ts) b h =
          let here : IsGrown scope rows atoms (node i c ts) c = subst (IsGrown scope rows atoms (node i c ts)) (sym h.0) h in
          right-append scope rows front (lines_for_trees atoms n ts) (node_line atoms i c (tree_children n ts) ∷ []) (all_lines_right front n e ts i.alternatives b h.3) (node_right front n e i c ts here, tt)

      all_lines_right : (front : List Line) (n : ℕ) → length front ≡ n → (ts : PlainTrees SatLit) (as' : List (List SatLit)) (b : List SatLit) → AreGrown scope rows atoms ts as' b → AreRightAfter scope rows front (lines_for_trees atoms n ts)
      all_lines_right front n e none as' b h = tt
      all_lines_right front n e (more t ts) [] b h = absurd h
      all_lines_right front n e (more t ts) (a ∷ as') b h =
          right-append scope rows front (lines_for_tree atoms n t) (lines_for_trees atoms (n + nodes_in t) ts) (lines_right front n e t (added numbers b a) h.0) (all_lines_right (front ++ lines_for_tree atoms n t) (n + nodes_in t) (count_behind atoms front n t e) ts as' b h.1)
