-- Lines as they are written, one after the other.
use Rattle.std.proofs.Common.{◌≡◌, ◌<◌, ℕ, zero, suc, List, [], ◌∷◌, map, length, take, Some, option_map, unwrap_or, slice_get, slice_index_or, refl, sym, ap, ap₂, ◌∙◌, arith}
use Rattle.std.proofs.lemmas.List.{length-map}
use Rattle.std.proofs.lemmas.Option.{slice_get-map, slice_get_within}
use Rattle.tableau_calculus.specs.declared.refutation.Line.{Line}
use Rattle.sat_base.specs.declared.literal.Var.{Var}
use Rattle.sat_base.specs.declared.literal.SatLit.{SatLit}
use Rattle.sat_base.specs.Literal.{negated}
use Rattle.sat_log.specs.Resolution.{resolvent}
use Rattle.term_bank.specs.Content.{Content}
use Rattle.literal_map.specs.declared.instance.Instance.{Instance as BankInstance}
use Rattle.tableau_clauses.specs.declared.origin.Origin.TheVariants.{Instance as From}
use Rattle.tableau_clauses.specs.Table.{Step, Table, the_clauses}
use Rattle.rebuild_spec.specs.Input.{clause_by}
use Rattle.rebuild_spec.specs.Trees.{at_clause, leaf, cut, branch}
use Rattle.rebuild_spec.specs.Stands.{instance_line}
use Rattle.rebuild_spec.specs.Lines.{walked, line_number_in, line_of}
use Rattle.tableau_rebuild.specs.Tables.{no_rule, no_instance, atoms_at, the_instance, sourced, the_sources}
use Rattle.tableau_rebuild.specs.declared.draft.At.{At}
use Rattle.tableau_rebuild.specs.declared.draft.Draft.{Draft}
use Rattle.tableau_rebuild.specs.declared.draft.Draft.TheVariants.{Clause, Close, Cut}
use Rattle.tableau_rebuild.specs.Internal.Drafts.{place_after_step, tree_at, trees, AreDrafts}
use Rattle.tableau_rebuild.specs.Internal.Arenas.{clause_line, fleshed}
use Rattle.tableau_rebuild.specs.Internal.Numbers.{AreNumbers}
use Rattle.tableau_rebuild.specs.Internal.Branches.{number_branch_at, branch_by, IsReady}
use Rattle.tableau_rebuild.specs.Internal.LineParts.{instance_by, close_by, cut_by, IsClauseFrom, IsMakeable, IsLineBy}
use Rattle.tableau_rebuild.specs.Internal.Written.{the_tree}
use Rattle.tableau_rebuild.proofs.DraftLaws.{clause_tree, close_tree, cut_tree}
use Rattle.tableau_rebuild.proofs.FleshLaws.{number_in-fleshed}
use Rattle.tableau_rebuild.proofs.NumberLaws.{IsEarlier, cut_children}

got_default : {A : Type 0} (xs : List A) (n : ℕ) (d x : A) → slice_get xs n ≡ Some x → slice_index_or xs n d ≡ x
got_default [] n d x h = cc
got_default (y ∷ xs) zero d x h = cc
got_default (y ∷ xs) (suc n) d x h = got_default xs n d x h

got_front : (k : ℕ) (xs : List ℕ) (n x : ℕ) → n < k → slice_get xs n ≡ Some x → slice_get (take k xs) n ≡ Some x
got_front zero xs n x l h = absurd (omega (arith, l))
got_front (suc k) [] n x l h = cc
got_front (suc k) (y ∷ xs) zero x l h = h
got_front (suc k) (y ∷ xs) (suc n) x l h = got_front k xs n x (omega (arith, l)) h

map_map : {A B C : Type 0} (f : B → C) (g : A → B) (xs : List A) → map f (map g xs) ≡ map (λ x. f (g x)) xs
map_map f g [] = refl
map_map f g (x ∷ xs) = ap (λ ys. f (g x) ∷ ys) (map_map f g xs)

module _ (b : Content) (atoms : List ℕ) (t : Table) (drafts : List Draft) where
  -- the source of a clause of an instance
  source_of : (n : ℕ) (i : BankInstance) (h : IsClauseFrom b atoms t n i) → slice_get (the_sources b.terms atoms t) n ≡ Some (clause_by h.clause (the_instance b.terms atoms i))
  source_of n i h =
      slice_get-map (λ (s : Step). sourced b.terms atoms t.1 s.0 s.1) t.0 n ∙ ap (option_map (λ (s : Step). sourced b.terms atoms t.1 s.0 s.1)) h.step
      ∙ ap (λ o. Some (clause_by h.clause (unwrap_or (option_map (the_instance b.terms atoms) o) no_instance))) h.instance

  clause_here : (n j : ℕ) (i : BankInstance) (h : IsClauseFrom b atoms t n i) → slice_get drafts j ≡ Some (Clause n) → the_tree b.terms atoms t drafts j ≡ instance_line n h.clause (the_instance b.terms atoms i)
  clause_here n j i h drafted =
      ap (fleshed (the_sources b.terms atoms t)) (clause_tree drafts j n drafted) ∙ ap (λ o. clause_line n o (leaf (at_clause n) [] no_rule [])) (source_of n i h)

  clause_literals : (n : ℕ) (i : BankInstance) (h : IsClauseFrom b atoms t n i) → slice_index_or (the_clauses t) n [] ≡ h.clause
  clause_literals n i h = got_default (the_clauses t) n [] h.clause (slice_get-map (λ (s : Step). s.0) t.0 n ∙ ap (option_map (λ (s : Step). s.0)) h.step)

  module _ (right : AreDrafts drafts) (last : ℕ) (below : last < length drafts) (order : List ℕ) (walks : map (tree_at (trees drafts)) order ≡ walked [] (tree_at (trees drafts) last)) (inside : (k i : ℕ) → slice_get order k ≡ Some i → i < length drafts) (numbers : List ℕ) (are : AreNumbers order numbers) where
    -- a child that is listed before has its branch and its number
    branch_there : (k i : ℕ) (branches : List (List SatLit)) → branches ≡ map (λ j. branch (the_tree b.terms atoms t drafts j)) (take k order) → IsEarlier drafts right last below order walks k i → number_branch_at numbers branches i ≡ branch (the_tree b.terms atoms t drafts i)
    branch_there k i branches e h =
        ap (λ n. slice_index_or branches n []) (are h.number i h.there)
        ∙ ap (λ xs. slice_index_or xs h.number []) e
        ∙ got_default (map (λ j. branch (the_tree b.terms atoms t drafts j)) (take k order)) h.number [] (branch (the_tree b.terms atoms t drafts i))
        (slice_get-map (λ j. branch (the_tree b.terms atoms t drafts j)) (take k order) h.number ∙ ap (option_map (λ j. branch (the_tree b.terms atoms t drafts j))) (got_front k order h.number i h.before h.there))

    number_there : (k i : ℕ) → IsEarlier drafts right last below order walks k i → slice_index_or numbers i 0 ≡ line_number_in (map (the_tree b.terms atoms t drafts) order) (the_tree b.terms atoms t drafts i)
    number_there k i h =
        are h.number i h.there ∙ sym h.is
        ∙ sym (number_in-fleshed (the_sources b.terms atoms t) (map (tree_at (trees drafts)) order) (tree_at (trees drafts) i))
        ∙ ap (λ xs. line_number_in xs (the_tree b.terms atoms t drafts i)) (map_map (fleshed (the_sources b.terms atoms t)) (tree_at (trees drafts)) order)

    cut_here : (i : ℕ) (at : At) (v : Var) (on off : ℕ) → slice_get drafts i ≡ Some (Cut at v on off) → the_tree b.terms atoms t drafts i ≡ cut (place_after_step at) v (the_tree b.terms atoms t drafts on) (the_tree b.terms atoms t drafts off)
    cut_here i at v on off h = let low = right.below i at v on off h in ap (fleshed (the_sources b.terms atoms t)) (cut_tree drafts i at v on off h low.0 low.1)

    -- the branch of a line is made of those before
    pub branch_made : (k i : ℕ) (d : Draft) (branches : List (List SatLit)) → slice_get order k ≡ Some i → slice_get drafts i ≡ Some d → IsMakeable b atoms t numbers d → branches ≡ map (λ j. branch (the_tree b.terms atoms t drafts j)) (take k order) → branch_by (the_clauses t) numbers branches d ≡ branch (the_tree b.terms atoms t drafts i)
    branch_made k i (Clause n) branches listed drafted can e =
        ap (map negated) (clause_literals n can.0 can.1) ∙ sym (ap branch (clause_here n i can.0 can.1 drafted))
    branch_made k i (Close at l m) branches listed drafted can e =
        sym (ap branch (ap (fleshed (the_sources b.terms atoms t)) (close_tree drafts i at l m drafted)))
    branch_made k i (Cut at v on off) branches listed drafted can e =
        let both = cut_children drafts right last below order walks inside k i at v on off listed drafted in
        ap₂ (resolvent v) (branch_there k on branches e both.0) (branch_there k off branches e both.1) ∙ sym (ap branch (cut_here i at v on off drafted))

    -- the line is the one of the walk
    pub line_made : (k i : ℕ) (d : Draft) (l : Line) → slice_get order k ≡ Some i → slice_get drafts i ≡ Some d → IsMakeable b atoms t numbers d → IsLineBy b atoms t numbers (branch (the_tree b.terms atoms t drafts i)) d l
        → l ≡ line_of (atoms_at b.terms atoms) (map (the_tree b.terms atoms t drafts) order) (the_tree b.terms atoms t drafts i)
    line_made k i (Clause n) l listed drafted can is =
        let here = clause_here n i can.0 can.1 drafted in
        let A = atoms_at b.terms atoms in
        let lines = map (the_tree b.terms atoms t drafts) order in
        is can.0 can.1 ∙ ap (λ ls. instance_by A ls (the_instance b.terms atoms can.0)) (ap branch here) ∙ sym (ap (line_of A lines) here)
    line_made k i (Close at x y) l listed drafted can is =
        let here = ap (fleshed (the_sources b.terms atoms t)) (close_tree drafts i at x y drafted) in
        let A = atoms_at b.terms atoms in
        is ∙ ap (close_by A) (ap branch here) ∙ sym (ap (line_of A (map (the_tree b.terms atoms t drafts) order)) here)
    line_made k i (Cut at v on off) l listed drafted can is =
        let here = cut_here i at v on off drafted in
        let both = cut_children drafts right last below order walks inside k i at v on off listed drafted in
        let A = atoms_at b.terms atoms in
        is
        ∙ ap (λ ls. cut_by A ls v (slice_index_or numbers on 0) (slice_index_or numbers off 0)) (ap branch here)
        ∙ ap₂ (λ m n. cut_by A (branch (cut (place_after_step at) v (the_tree b.terms atoms t drafts on) (the_tree b.terms atoms t drafts off))) v m n) (number_there k on both.0) (number_there k off both.1)
        ∙ sym (ap (line_of A (map (the_tree b.terms atoms t drafts) order)) here)

    pub ready : (k i : ℕ) (d : Draft) (count : ℕ) → count ≡ k → slice_get order k ≡ Some i → slice_get drafts i ≡ Some d → IsMakeable b atoms t numbers d → IsReady (length (the_clauses t)) numbers count d
    ready k i (Clause n) count same listed drafted can =
        let within = slice_get_within t.0 n (can.1.clause, From can.1.number) can.1.step in
        let all = length-map t.0 (λ (s : Step). s.0) in
        omega (arith, within, all)
    ready k i (Close at l m) count same listed drafted can = tt
    ready k i (Cut at v on off) count same listed drafted can =
        let both = cut_children drafts right last below order walks inside k i at v on off listed drafted in
        let first = are both.0.number on both.0.there in
        let second = are both.1.number off both.1.there in
        let low = both.0.before in
        let lower = both.1.before in
        ((can.1, omega (arith, first, low, same)), (can.2, omega (arith, second, lower, same)))
