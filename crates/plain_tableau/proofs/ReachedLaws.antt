-- Each line of a tree is reached from the last one.
use Rattle.std.proofs.Common.{◌≡◌, ◌<◌, ◌≤◌, ◌+◌, ◌++◌, ◌⊎◌, inl, inr, ℕ, suc, List, [], ◌∷◌, length, Some, slice_get, Contains, refl, sym, ap, ap₂, ◌∙◌, subst, append_assoc, length-append, arith}
use Rattle.std.proofs.lemmas.List.{append-nil}
use Rattle.std.proofs.lemmas.Bool.{cases_lt}
use Rattle.stt_core.specs.Lambda.{Lambda}
use Rattle.tableau_calculus.specs.declared.refutation.Child.{Child}
use Rattle.tableau_calculus.specs.declared.refutation.Child.TheVariants.{Line as Numbered}
use Rattle.tableau_calculus.specs.declared.refutation.Line.{Line}
use Rattle.tableau_calculus.proofs.ListLaws.{contains-first, contains-later}
use Rattle.sat_base.specs.declared.literal.SatLit.{SatLit}
use Rattle.rebuild_spec.specs.Trimmed.{IsReached, last, child_of as by_child, IsEachReached}
use Rattle.plain_tableau.specs.Trees.{PlainTree, closed, node, PlainTrees, none, more, nodes_in, nodes_in_all}
use Rattle.plain_tableau.specs.Lines.{tree_child, tree_children, node_line, lines_for_tree, lines_for_trees}
use Rattle.plain_tableau.proofs.ListLaws.{get_middle}
use Rattle.plain_tableau.proofs.LineLaws.{count, count_all, count_behind}

module _ (atoms : List Lambda) (all : List Line) where
  mutual
    tree_reached : (t : PlainTree SatLit) (front : List Line) (n : ℕ) → length front ≡ n → (back : List Line) → all ≡ front ++ (lines_for_tree atoms n t ++ back) → ((j : ℕ) → tree_child n t ≡ Numbered j → IsReached all j) → (k : ℕ) → n ≤ k → k < n + nodes_in t → IsReached all k
    tree_reached closed front n e back is root k low high = absurd (omega (arith, low, high))
    tree_reached (node i b ts) front n e back is root k low high =
        let line = node_line atoms i b (tree_children n ts) in
        let before = front ++ lines_for_trees atoms n ts in
        let counted : length before ≡ n + nodes_in_all ts = length-append front (lines_for_trees atoms n ts) ∙ ap₂ (λ x y. x + y) e (count_all atoms n ts) in
        let inner : lines_for_tree atoms n (node i b ts) ++ back ≡ lines_for_trees atoms n ts ++ line ∷ back = append_assoc (lines_for_trees atoms n ts) (line ∷ []) back in
        let split : all ≡ front ++ (lines_for_trees atoms n ts ++ line ∷ back) = is ∙ ap (λ ls. front ++ ls) inner in
        let there : slice_get all (n + nodes_in_all ts) ≡ Some line = ap (λ ls. slice_get ls (n + nodes_in_all ts)) (split ∙ sym (append_assoc front (lines_for_trees atoms n ts) (line ∷ back))) ∙ get_middle before line back (n + nodes_in_all ts) counted in
        let here : IsReached all (n + nodes_in_all ts) = root (n + nodes_in_all ts) refl in
        elim (cases_lt k (n + nodes_in_all ts)) [
          | inl l ↦ trees_reached ts front n e (line ∷ back) split (n + nodes_in_all ts) line there here (λ c h. h) k low l
          | inr h ↦ let same : n + nodes_in_all ts ≡ k = omega (arith, h, high) in subst (IsReached all) same here
        ]

    trees_reached : (ts : PlainTrees SatLit) (front : List Line) (n : ℕ) → length front ≡ n → (back : List Line) → all ≡ front ++ (lines_for_trees atoms n ts ++ back) → (m : ℕ) (line : Line) → slice_get all m ≡ Some line → IsReached all m → ((c : Child) → Contains (tree_children n ts) c → Contains line.children c) → (k : ℕ) → n ≤ k → k < n + nodes_in_all ts → IsReached all k
    trees_reached none front n e back is m line there root within k low high = absurd (omega (arith, low, high))
    trees_reached (more t us) front n e back is m line there root within k low high =
        let own = lines_for_tree atoms n t in
        let rest = lines_for_trees atoms (n + nodes_in t) us in
        let first : all ≡ front ++ (own ++ (rest ++ back)) = is ∙ ap (λ ls. front ++ ls) (append_assoc own rest back) in
        let second : all ≡ (front ++ own) ++ (rest ++ back) = first ∙ sym (append_assoc front own (rest ++ back)) in
        elim (cases_lt k (n + nodes_in t)) [
          | inl l ↦ tree_reached t front n e (rest ++ back) first (λ j h. by_child m j line root there (subst (Contains line.children) h (within (tree_child n t) (contains-first (tree_child n t) (tree_children (n + nodes_in t) us))))) k low l
          | inr h ↦ let below : k < (n + nodes_in t) + nodes_in_all us = omega (arith, high) in
              trees_reached us (front ++ own) (n + nodes_in t) (count_behind atoms front n t e) back second m line there root (λ c x. within c (contains-later c (tree_child n t) (tree_children (n + nodes_in t) us) x)) k h below
        ]

root_last : (atoms : List Lambda) (t : PlainTree SatLit) (j : ℕ) → tree_child 0 t ≡ Numbered j → length (lines_for_tree atoms 0 t) ≡ suc j
root_last atoms closed j h = cc
root_last atoms (node i b ts) j h =
    let same : 0 + nodes_in_all ts ≡ j = cc in
    let all = count atoms 0 (node i b ts) in
    all ∙ omega (arith, same)

pub each_reached : (atoms : List Lambda) (t : PlainTree SatLit) → IsEachReached (lines_for_tree atoms 0 t)
each_reached atoms t n below =
    let all = lines_for_tree atoms 0 t in
    let counted = count atoms 0 t in
    tree_reached atoms all t [] 0 refl [] (sym (append-nil all)) (λ j h. last j (root_last atoms t j h)) n (omega arith) (omega (arith, below, counted))
