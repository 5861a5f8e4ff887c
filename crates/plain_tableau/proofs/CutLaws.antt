-- No line of a tree over right instances is a cut.
use Rattle.std.proofs.Common.{◌≡◌, ◌+◌, ℕ, false, List, [], ◌∷◌, map, refl, ◌∙◌}
use Rattle.std.proofs.lemmas.List.Elements.{All-append, All-cons, All-nil}
use Rattle.stt_core.specs.Lambda.{Lambda}
use Rattle.stt_core.specs.Typing.{Scope}
use Rattle.tableau_calculus.specs.Witnesses.{Row}
use Rattle.tableau_calculus.specs.Rules.{PlainRule}
use Rattle.tableau_calculus.specs.declared.rule_use.RuleUse.TheVariants.{AtOne, AtTwo, AllPos}
use Rattle.tableau_calculus.specs.declared.refutation.Line.{Line}
use Rattle.sat_base.specs.declared.literal.SatLit.{SatLit}
use Rattle.tableau_calculus.specs.Kinds.{added}
use Rattle.search_spec.specs.Numbered.{numbers}
use Rattle.rebuild_spec.specs.Stands.{rule_at_places, place_in}
use Rattle.plain_tableau.specs.Trees.{PlainTree, closed, node, PlainTrees, none, more, nodes_in}
use Rattle.plain_tableau.specs.Lines.{tree_children, node_line, lines_for_tree, lines_for_trees}
use Rattle.tableau_calculus.specs.CutFree.{is_cut_use, HasNoCut}
use Rattle.plain_tableau.proofs.GrownLaws.{IsGrown, AreGrown}

-- a rule at other places is a cut where it is
placed_cut : (rule : PlainRule) (is : List ℕ) → is_cut_use (rule_at_places rule is) ≡ is_cut_use rule
placed_cut (AtOne k p) (i ∷ is) = refl
placed_cut (AtTwo k p q) (i ∷ j ∷ is) = refl
placed_cut (AllPos p u) (i ∷ is) = refl
placed_cut rule is = refl

module _ (scope : Scope) (rows : List Row) (atoms : List Lambda) where
  mutual
    pub no_cut : (n : ℕ) (t : PlainTree SatLit) (b : List SatLit) → IsGrown scope rows atoms t b → HasNoCut (lines_for_tree atoms n t)
    no_cut n closed b h = All-nil (λ (l : Line). is_cut_use l.rule ≡ false)
    no_cut n (node i c ts) b h =
        let line = node_line atoms i c (tree_children n ts) in
        let Plain = λ (l : Line). is_cut_use l.rule ≡ false in
        All-append Plain (lines_for_trees atoms n ts) (line ∷ []) (none_cut n ts i.alternatives b h.3) (All-cons Plain line [] (placed_cut i.rule (map (place_in c) i.principals) ∙ h.1.no_cut) (All-nil Plain))

    none_cut : (n : ℕ) (ts : PlainTrees SatLit) (as' : List (List SatLit)) (b : List SatLit) → AreGrown scope rows atoms ts as' b → HasNoCut (lines_for_trees atoms n ts)
    none_cut n none as' b h = All-nil (λ (l : Line). is_cut_use l.rule ≡ false)
    none_cut n (more t ts) [] b h = absurd h
    none_cut n (more t ts) (a ∷ as') b h = All-append (λ (l : Line). is_cut_use l.rule ≡ false) (lines_for_tree atoms n t) (lines_for_trees atoms (n + nodes_in t) ts) (no_cut n t (added numbers b a) h.0) (none_cut (n + nodes_in t) ts as' b h.1)
