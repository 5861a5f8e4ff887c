-- The trees of drafts.
use Rattle.std.proofs.Common.{◌≡◌, ◌<◌, ◌+◌, ℕ, zero, suc, true, List, [], ◌∷◌, ◌++◌, length, Some, slice_get, refl, sym, ap, ap₂, ◌∙◌, subst, append_assoc, append-nil, length-append, arith}
use Rattle.std.proofs.lemmas.Option.{slice_get_within}
use Rattle.tableau_calculus.specs.declared.rule_use.RuleUse.TheVariants.{AtTwo}
use Rattle.tableau_calculus.specs.declared.rule_use.TwoPlaces.TheVariants.{Close as CloseRule}
use Rattle.sat_base.specs.declared.literal.Var.{Var}
use Rattle.sat_base.specs.declared.literal.SatLit.{SatLit}
use Rattle.rebuild_spec.specs.Trees.{at_clause, Tree, leaf, cut, same_line}
use Rattle.rebuild_spec.proofs.WalkLaws.{IsEach}
use Rattle.tableau_rebuild.specs.Tables.{no_rule}
use Rattle.tableau_rebuild.specs.declared.draft.At.{At}
use Rattle.tableau_rebuild.specs.declared.draft.Draft.{Draft}
use Rattle.tableau_rebuild.specs.declared.draft.Draft.TheVariants.{Clause, Close, Cut}
use Rattle.tableau_rebuild.specs.Internal.Drafts.{place_after_step, tree_at, tree_of, trees_after, trees, AreDrafts}

at_middle : (front back : List Tree) (x : Tree) → tree_at (front ++ x ∷ back) (length front) ≡ x
at_middle [] back x = refl
at_middle (y ∷ front) back x = let e : length (y ∷ front) ≡ suc (length front) = omega arith in ap (λ n. tree_at (y ∷ (front ++ x ∷ back)) n) e ∙ at_middle front back x

pub at_front : (front back : List Tree) (i : ℕ) → i < length front → tree_at (front ++ back) i ≡ tree_at front i
at_front [] back i l = absurd (omega (arith, l))
at_front (y ∷ front) back zero l = refl
at_front (y ∷ front) back (suc i) l = at_front front back i (omega (arith, l))

-- the trees before that of a draft, and those behind
record Split (earlier : List Tree) (ds : List Draft) (j : ℕ) (d : Draft) : Type 0 where
  before : List Tree
  behind : List Tree
  count : length before ≡ length earlier + j
  are : trees_after earlier ds ≡ before ++ tree_of before d ∷ behind

pub grown : (earlier : List Tree) (ds : List Draft) → (more : List Tree) × (trees_after earlier ds ≡ earlier ++ more)
grown earlier [] = ([], sym (append-nil earlier))
grown earlier (d ∷ ds) =
    let rest = grown (earlier ++ tree_of earlier d ∷ []) ds in
    (tree_of earlier d ∷ rest.0, rest.1 ∙ append_assoc earlier (tree_of earlier d ∷ []) rest.0)

split : (earlier : List Tree) (ds : List Draft) (j : ℕ) (d : Draft) → slice_get ds j ≡ Some d → Split earlier ds j d
split earlier [] j d h = cc
split earlier (e ∷ ds) zero d h =
    let same : e ≡ d = cc in
    let rest = grown (earlier ++ tree_of earlier e ∷ []) ds in
    record {
      before = earlier;
      behind = rest.0;
      count = omega arith;
      are = rest.1 ∙ append_assoc earlier (tree_of earlier e ∷ []) rest.0 ∙ ap (λ x. earlier ++ tree_of earlier x ∷ rest.0) same;
    }
split earlier (e ∷ ds) (suc j) d h =
    let rest = split (earlier ++ tree_of earlier e ∷ []) ds j d h in
    let counted = rest.count in
    let longer = length-append earlier (tree_of earlier e ∷ []) in
    record { before = rest.before; behind = rest.behind; count = omega (arith, counted, longer); are = rest.are }

pub there : (ds : List Draft) (n : ℕ) → n < length ds → (d : Draft) × (slice_get ds n ≡ Some d)
there [] n l = absurd (omega (arith, l))
there (x ∷ ds) zero l = (x, refl)
there (x ∷ ds) (suc n) l = there ds n (omega (arith, l))

module _ (drafts : List Draft) where
  abbrev ts : List Tree
  ts = trees drafts

  leaf_tree : (i : ℕ) (d : Draft) (t : Tree) → ((earlier : List Tree) → tree_of earlier d ≡ t) → slice_get drafts i ≡ Some d → tree_at ts i ≡ t
  leaf_tree i d t same h =
      let s = split [] drafts i d h in
      let counted = s.count in
      let place : i ≡ length s.before = omega (arith, counted) in
      ap₂ tree_at s.are place ∙ at_middle s.before s.behind (tree_of s.before d) ∙ same s.before

  pub clause_tree : (i n : ℕ) → slice_get drafts i ≡ Some (Clause n) → tree_at ts i ≡ leaf (at_clause n) [] no_rule []
  clause_tree i n h = leaf_tree i (Clause n) (leaf (at_clause n) [] no_rule []) (λ earlier. refl) h

  pub close_tree : (i : ℕ) (at : At) (l m : SatLit) → slice_get drafts i ≡ Some (Close at l m) → tree_at ts i ≡ leaf (place_after_step at) (l ∷ m ∷ []) (AtTwo CloseRule 0 1) []
  close_tree i at l m h = leaf_tree i (Close at l m) (leaf (place_after_step at) (l ∷ m ∷ []) (AtTwo CloseRule 0 1) []) (λ earlier. refl) h

  earlier_tree : (i a : ℕ) (d : Draft) (s : Split [] drafts i d) → a < i → tree_at s.before a ≡ tree_at ts a
  earlier_tree i a d s l =
      let counted = s.count in
      let below : a < length s.before = omega (arith, counted, l) in
      sym (ap (λ k. tree_at k a) s.are ∙ at_front s.before (tree_of s.before d ∷ s.behind) a below)

  pub cut_tree : (i : ℕ) (at : At) (v : Var) (a b : ℕ) → slice_get drafts i ≡ Some (Cut at v a b) → a < i → b < i → tree_at ts i ≡ cut (place_after_step at) v (tree_at ts a) (tree_at ts b)
  cut_tree i at v a b h l m =
      let d = Cut at v a b in
      let s = split [] drafts i d h in
      let counted = s.count in
      let place : i ≡ length s.before = omega (arith, counted) in
      ap₂ tree_at s.are place ∙ at_middle s.before s.behind (tree_of s.before d) ∙ ap₂ (λ t u. cut (place_after_step at) v t u) (earlier_tree i a d s l) (earlier_tree i b d s m)

  -- a tree that is a draft's
  abbrev pub IsDrafted : Tree → Type 0
  IsDrafted t = (i : ℕ) × (i < length drafts) × (t ≡ tree_at ts i)

  module _ (right : AreDrafts drafts) where
    pub one_drafted : (t u : Tree) → IsDrafted t → IsDrafted u → same_line t u ≡ true → t ≡ u
    one_drafted t u h k e =
        let same = right.apart h.0 k.0 h.1 k.1 (ap₂ same_line (sym h.2) (sym k.2) ∙ e) in
        h.2 ∙ ap (tree_at ts) same ∙ sym k.2

    each_drafted_below : (bound i : ℕ) (d : Draft) → i < bound → slice_get drafts i ≡ Some d → IsEach IsDrafted (tree_at ts i)
    each_drafted_below zero i d l h = absurd (omega (arith, l))
    each_drafted_below (suc bound) i (Clause n) l h =
        subst (IsEach IsDrafted) (sym (clause_tree i n h)) (i, slice_get_within drafts i (Clause n) h, sym (clause_tree i n h))
    each_drafted_below (suc bound) i (Close at x y) l h =
        subst (IsEach IsDrafted) (sym (close_tree i at x y h)) (i, slice_get_within drafts i (Close at x y) h, sym (close_tree i at x y h))
    each_drafted_below (suc bound) i (Cut at v a b) l h =
        let below = right.below i at v a b h in
        let inside = slice_get_within drafts i (Cut at v a b) h in
        let tree = cut_tree i at v a b h below.0 below.1 in
        let first = there drafts a (omega (arith, below.0, inside)) in
        let second = there drafts b (omega (arith, below.1, inside)) in
        subst (IsEach IsDrafted) (sym tree)
        ((i, inside, sym tree), each_drafted_below bound a first.0 (omega (arith, below.0, l)) first.1, each_drafted_below bound b second.0 (omega (arith, below.1, l)) second.1)

    pub each_drafted : (i : ℕ) → i < length drafts → IsEach IsDrafted (tree_at ts i)
    each_drafted i l = let d = there drafts i l in each_drafted_below (suc i) i d.0 (omega arith) d.1
