-- The lines of a walk have their numbers, and a line's children have lower ones.
use Rattle.std.proofs.Common.{◌≡◌, ◌≢◌, ◌<◌, ℕ, suc, nat_eq, Bool, true, false, List, [], map, length, get_or, set, slice_set, Some, option_map, slice_get, slice_index_or, refl, sym, ap, ◌∙◌, subst, arith}
use Rattle.std.proofs.lemmas.Bool.{eqb-true, eq-eqb, false≢true}
use Rattle.std.proofs.lemmas.List.{get_or-set_same, get_or-set_other}
use Rattle.std.proofs.lemmas.Option.{slice_get_within, slice_get-map}
use Rattle.sat_base.specs.declared.literal.Var.{Var}
use Rattle.rebuild_spec.specs.Trees.{Tree, cut, made_at, same_line}
use Rattle.rebuild_spec.specs.Lines.{walked, line_number_in}
use Rattle.rebuild_spec.proofs.WalkLaws.{same_place-refl, IsListed, IsOrdered}
use Rattle.rebuild_spec.proofs.LastLaws.{walk_ordered}
use Rattle.rebuild_spec.proofs.ExistsLaws.{map_some}
use Rattle.tableau_rebuild.specs.declared.draft.At.{At}
use Rattle.tableau_rebuild.specs.declared.draft.Draft.{Draft}
use Rattle.tableau_rebuild.specs.declared.draft.Draft.TheVariants.{Cut}
use Rattle.tableau_rebuild.specs.Internal.Drafts.{place_after_step, tree_at, trees, AreDrafts}
use Rattle.tableau_rebuild.proofs.DraftLaws.{cut_tree, IsDrafted, one_drafted, each_drafted}

module _ (drafts : List Draft) (right : AreDrafts drafts) (last : ℕ) (below : last < length drafts) (order : List ℕ) (walks : map (tree_at (trees drafts)) order ≡ walked [] (tree_at (trees drafts) last)) where
  ordered : IsOrdered (IsDrafted drafts) (map (tree_at (trees drafts)) order)
  ordered = subst (IsOrdered (IsDrafted drafts)) (sym walks) (walk_ordered (IsDrafted drafts) (one_drafted drafts right) (tree_at (trees drafts) last) (each_drafted drafts right last below))

  line_at : (k i : ℕ) → slice_get order k ≡ Some i → slice_get (map (tree_at (trees drafts)) order) k ≡ Some (tree_at (trees drafts) i)
  line_at k i h = slice_get-map (tree_at (trees drafts)) order k ∙ ap (option_map (tree_at (trees drafts))) h

  -- a line has its number
  pub numbered : (k i : ℕ) → slice_get order k ≡ Some i → line_number_in (map (tree_at (trees drafts)) order) (tree_at (trees drafts) i) ≡ k
  numbered k i h = ordered.numbered k (tree_at (trees drafts) i) (line_at k i h)

  -- a draft is listed once
  pub listed_once : (j k i : ℕ) → slice_get order j ≡ Some i → slice_get order k ≡ Some i → j ≡ k
  listed_once j k i h g = sym (numbered j i h) ∙ numbered k i g

  listed_drafts : (k : ℕ) (t : Tree) → slice_get (map (tree_at (trees drafts)) order) k ≡ Some t → (i : ℕ) × (slice_get order k ≡ Some i) × (tree_at (trees drafts) i ≡ t)
  listed_drafts k t h = map_some (tree_at (trees drafts)) (slice_get order k) t (sym (slice_get-map (tree_at (trees drafts)) order k) ∙ h)

  -- the draft is listed before this number
  pub record IsEarlier (k i : ℕ) : Type 0 where
    pub number : ℕ
    pub before : number < k
    pub there : slice_get order number ≡ Some i
    pub is : line_number_in (map (tree_at (trees drafts)) order) (tree_at (trees drafts) i) ≡ number

  module _ (inside : (k i : ℕ) → slice_get order k ≡ Some i → i < length drafts) where
    child : (k a : ℕ) → a < length drafts → IsListed (map (tree_at (trees drafts)) order) (tree_at (trees drafts) a) × (line_number_in (map (tree_at (trees drafts)) order) (tree_at (trees drafts) a) < k) → IsEarlier k a
    child k a l h =
        let n = line_number_in (map (tree_at (trees drafts)) order) (tree_at (trees drafts) a) in
        let found = listed_drafts n (tree_at (trees drafts) a) h.0 in
        let same_place : same_line (tree_at (trees drafts) found.0) (tree_at (trees drafts) a) ≡ true = ap (λ t. same_line t (tree_at (trees drafts) a)) found.2 ∙ same_place-refl (made_at (tree_at (trees drafts) a)) in
        let same = right.apart found.0 a (inside n found.0 found.1) l same_place in
        record { number = n; before = h.1; there = found.1 ∙ ap Some same; is = refl }

    -- a cut's children are listed before it
    pub cut_children : (k i : ℕ) (at : At) (v : Var) (a b : ℕ) → slice_get order k ≡ Some i → slice_get drafts i ≡ Some (Cut at v a b) → IsEarlier k a × IsEarlier k b
    cut_children k i at v a b listed drafted =
        let low = right.below i at v a b drafted in
        let l = slice_get_within drafts i (Cut at v a b) drafted in
        let tree = cut_tree drafts i at v a b drafted low.0 low.1 in
        let line : slice_get (map (tree_at (trees drafts)) order) k ≡ Some (cut (place_after_step at) v (tree_at (trees drafts) a) (tree_at (trees drafts) b)) = line_at k i listed ∙ ap Some tree in
        let both = ordered.earlier k (cut (place_after_step at) v (tree_at (trees drafts) a) (tree_at (trees drafts) b)) line in
        (child k a (omega (arith, low.0, l)) both.0, child k b (omega (arith, low.1, l)) both.1)

-- the numbers of the first lines
abbrev pub AreFirst : List ℕ → List ℕ → ℕ → Type 0
AreFirst order numbers n = (k i : ℕ) → k < n → slice_get order k ≡ Some i → slice_index_or numbers i 0 ≡ k

pub none_first : (order numbers : List ℕ) → AreFirst order numbers 0
none_first order numbers k i l h = absurd (omega (arith, l))

pub first_more : (order numbers : List ℕ) (n i : ℕ) → slice_get order n ≡ Some i → i < length numbers → ((j k x : ℕ) → slice_get order j ≡ Some x → slice_get order k ≡ Some x → j ≡ k) → AreFirst order numbers n → AreFirst order (slice_set numbers i n) (suc n)
first_more order numbers n i at inside once first k x l h = go (nat_eq x i) refl
  where
    go : (b : Bool) → nat_eq x i ≡ b → slice_index_or (slice_set numbers i n) x 0 ≡ k
    go true e =
        let same : x ≡ i = eqb-true x i e in
        let place : n ≡ k = once n k i at (h ∙ ap Some same) in
        ap (λ y. get_or (set numbers i n) y 0) same ∙ get_or-set_same numbers i n 0 inside ∙ place
    go false e =
        let other : k < n = lower in
        get_or-set_other numbers i x n 0 (λ same. false≢true (sym e ∙ eq-eqb x i same)) ∙ first k x other h
      where
        lower : k < n
        lower = differ (nat_eq k n) refl
          where
            differ : (b : Bool) → nat_eq k n ≡ b → k < n
            differ true f =
                let same : k ≡ n = eqb-true k n f in
                let is : Some x ≡ Some i = sym h ∙ ap (slice_get order) same ∙ at in
                let one : x ≡ i = cc in
                absurd (false≢true (sym e ∙ eq-eqb x i one))
            differ false f = let no : k ≢ n = λ same. false≢true (sym f ∙ eq-eqb k n same) in omega (arith, l, no)
