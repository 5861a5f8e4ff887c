-- The lines that the last one stands on can be written.
use Rattle.std.proofs.Common.{◌≡◌, ◌-◌, ℕ, List, [], ◌∷◌, map, length, Option, Some, None, option_map, slice_get, slice_index_or, refl, sym, ap, ◌∙◌, subst, arith}
use Rattle.std.proofs.lemmas.Option.{slice_get-map, slice_get_within}
use Rattle.sat_base.specs.declared.literal.SatLit.{SatLit}
use Rattle.sat_base.specs.Literal.{IsOver}
use Rattle.sat_log.specs.declared.log.LogEntry.{LogEntry}
use Rattle.term_bank.specs.Content.{Content}
use Rattle.literal_map.specs.declared.instance.Instance.{Instance as BankInstance}
use Rattle.tableau_clauses.specs.Table.{Table}
use Rattle.rebuild_spec.specs.Input.{Sourced, start_unit, clause_by, Input}
use Rattle.rebuild_spec.specs.Trees.{Place, at_clause, at_result, leaf, branch}
use Rattle.rebuild_spec.specs.Stands.{start, line, Stands}
use Rattle.rebuild_spec.specs.Lines.{walked, line_of, lines_from}
use Rattle.rebuild_spec.proofs.ReachedLaws.{walked_all}
use Rattle.rebuild_spec.proofs.StandsLaws.{one_stands}
use Rattle.rebuild_spec.proofs.ExistsLaws.{empty_line}
use Rattle.tableau_rebuild.specs.Tables.{no_rule, atoms_at, the_sources, the_input}
use Rattle.tableau_rebuild.specs.Conditions.{EndsEmpty}
use Rattle.tableau_rebuild.specs.declared.arena.Standing.{Standing}
use Rattle.tableau_rebuild.specs.declared.arena.Standing.TheVariants.{Start}
use Rattle.tableau_rebuild.specs.declared.draft.Draft.{Draft}
use Rattle.tableau_rebuild.specs.declared.draft.Draft.TheVariants.{Clause, Close, Cut}
use Rattle.tableau_rebuild.specs.Internal.Drafts.{tree_at, trees, AreDrafts}
use Rattle.tableau_rebuild.specs.Internal.Arenas.{clause_line, fleshed, unit_of_start, StandsFor, AreResults}
use Rattle.tableau_rebuild.specs.Internal.LineParts.{IsClauseFrom, IsMakeable}
use Rattle.tableau_rebuild.specs.Internal.Needed.{HasParts}
use Rattle.tableau_rebuild.specs.Internal.Written.{the_tree, IsFoundedLine, IsFounded}
use Rattle.tableau_rebuild.proofs.ChainLaws.{got}
use Rattle.tableau_rebuild.proofs.DraftLaws.{clause_tree, cut_tree}
use Rattle.tableau_rebuild.proofs.FleshLaws.{walked-fleshed}
use Rattle.tableau_rebuild.proofs.OverLaws.{branch_over}

map_map : {A B C : Type 0} (f : B → C) (g : A → B) (xs : List A) → map f (map g xs) ≡ map (λ x. f (g x)) xs
map_map f g [] = refl
map_map f g (x ∷ xs) = ap (λ ys. f (g x) ∷ ys) (map_map f g xs)

-- what can be made has its parts
pub has_parts : (b : Content) (atoms : List ℕ) (t : Table) (numbers : List ℕ) (d : Draft) → IsMakeable b atoms t numbers d → HasParts b atoms t d
has_parts b atoms t numbers (Clause n) h = h
has_parts b atoms t numbers (Close at l m) h = tt
has_parts b atoms t numbers (Cut at v on off) h = h.0

module _ (b : Content) (atoms : List ℕ) (t : Table) (drafts : List Draft) (right : AreDrafts drafts) (last : ℕ) (order : List ℕ) (walks : map (tree_at (trees drafts)) order ≡ walked [] (tree_at (trees drafts) last)) where
  -- the lines of the walk are those of the drafts in this order
  lines_are : walked [] (the_tree b.terms atoms t drafts last) ≡ map (the_tree b.terms atoms t drafts) order
  lines_are =
      sym (walked-fleshed (the_sources b.terms atoms t) (tree_at (trees drafts) last) [])
      ∙ ap (map (fleshed (the_sources b.terms atoms t))) (sym walks)
      ∙ map_map (fleshed (the_sources b.terms atoms t)) (tree_at (trees drafts)) order

  pub all_lines : map (λ i. line_of (atoms_at b.terms atoms) (map (the_tree b.terms atoms t drafts) order) (the_tree b.terms atoms t drafts i)) order ≡ lines_from (atoms_at b.terms atoms) (the_tree b.terms atoms t drafts last)
  all_lines =
      let A = atoms_at b.terms atoms in
      sym (map_map (line_of A (map (the_tree b.terms atoms t drafts) order)) (the_tree b.terms atoms t drafts) order) ∙ ap (λ ls. map (line_of A ls) ls) (sym lines_are)

  module _ (founded : IsFounded b atoms t drafts last) where
    pub listed_founded : (k i : ℕ) → slice_get order k ≡ Some i → IsFoundedLine b atoms t (the_tree b.terms atoms t drafts i)
    listed_founded k i h =
        let T = the_tree b.terms atoms t drafts in
        walked_all (IsFoundedLine b atoms t) (T last) [] (λ j x e. cc) founded k (T i) (ap (λ ls. slice_get ls k) lines_are ∙ slice_get-map T order k ∙ ap (option_map T) h)

    pub listed_over : (k i : ℕ) → slice_get order k ≡ Some i → IsOver (length atoms) (branch (the_tree b.terms atoms t drafts i))
    listed_over k i h = branch_over b atoms t (the_tree b.terms atoms t drafts i) (listed_founded k i h)

    clause_founded : (n : ℕ) (o : Option Sourced) → IsFoundedLine b atoms t (clause_line n o (leaf (at_clause n) [] no_rule [])) → (i : BankInstance) × IsClauseFrom b atoms t n i
    clause_founded n (Some (clause_by c i)) h = h.1
    clause_founded n (Some (start_unit l)) h = h.1
    clause_founded n None h = h.1

    pub listed_makeable : (numbers : List ℕ) → length numbers ≡ length drafts → (k i : ℕ) (d : Draft) → slice_get order k ≡ Some i → slice_get drafts i ≡ Some d → IsMakeable b atoms t numbers d
    listed_makeable numbers count k i (Clause n) listed drafted =
        let S = the_sources b.terms atoms t in
        clause_founded n (slice_get S n) (subst (IsFoundedLine b atoms t) (ap (fleshed S) (clause_tree drafts i n drafted)) (listed_founded k i listed))
    listed_makeable numbers count k i (Close at l m) listed drafted = tt
    listed_makeable numbers count k i (Cut at v on off) listed drafted =
        let S = the_sources b.terms atoms t in
        let low = right.below i at v on off drafted in
        let inside = slice_get_within drafts i (Cut at v on off) drafted in
        let tree = ap (fleshed S) (cut_tree drafts i at v on off drafted low.0 low.1) in
        let founded_cut = subst (IsFoundedLine b atoms t) tree (listed_founded k i listed) in
        (founded_cut.0, omega (arith, low.0, inside, count), omega (arith, low.1, inside, count))

-- no start unit stands for the empty clause
pub no_start : (input : Input) (p : Place) (n : ℕ) (l : SatLit) → Stands input p [] (start n l) → ⊥
no_start input p n l h =
    let found = empty_line input p (record { standing = start n l; stands = h }) in
    let both = one_stands input p [] [] (start n l) (line found.tree) h found.stands in
    let same : start n l ≡ line found.tree = both.1 in
    cc

module _ (t : Table) (log : List LogEntry) (ds : List Draft) where
  -- what stands for the last result, which is the empty clause
  pub last_stands : (of_result : List Standing) → AreResults t log ds of_result → length of_result ≡ length log → (closed : EndsEmpty log) (size : ℕ) → size ≡ length log → (s : Standing) → s ≡ slice_index_or of_result (size - 1) s → StandsFor t log ds (at_result closed.number) [] s
  last_stands of_result results count closed size is s e =
      let last = closed.is_last in
      let same : size - 1 ≡ closed.number = omega (arith, is, last) in
      let at = got of_result closed.number s (omega (arith, count, last)) (e ∙ ap (λ k. slice_index_or of_result k s) same) in
      subst (λ x. StandsFor t log ds (at_result closed.number) x s) closed.empty (results closed.number s closed.entry at closed.at)

  -- it is no start unit
  pub last_start : (b : Content) (n m : ℕ) → StandsFor t log ds (at_result n) [] (Start m) → ⊥
  last_start b n m h = no_start (the_input b [] t log []) (at_result n) m (unit_of_start (slice_get (the_sources b.terms [] t) m)) (h.stands b [] [])
