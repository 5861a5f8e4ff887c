-- Trees as expansions make them.
use Rattle.std.proofs.Common.{◌≡◌, ◌+◌, ◌<◌, ◌≤◌, ◌&&◌, ℕ, suc, Bool, true, false, List, [], ◌∷◌, Some, refl, sym, ap, ◌∙◌, subst, arith}
use Rattle.std.specs.List.{All}
use Rattle.std.proofs.lemmas.Bool.{false≢true, and_parts}
use Rattle.std.proofs.lemmas.List.Elements.{All-contains}
use Rattle.stt_core.specs.Lambda.{Lambda}
use Rattle.stt_core.specs.Typing.{Scope}
use Rattle.tableau_calculus.specs.Witnesses.{Row}
use Rattle.tableau_calculus.specs.Rules.{close_rule}
use Rattle.sat_base.specs.declared.literal.SatLit.{SatLit}
use Rattle.sat_base.specs.Literal.{negated, holds}
use Rattle.tableau_calculus.specs.Kinds.{added}
use Rattle.search_spec.specs.Numbered.{numbers, literal_at}
use Rattle.rebuild_spec.proofs.LiteralLaws.{held_in}
use Rattle.plain_tableau.specs.Trees.{TreeInstance, PlainTree, closed, node, PlainTrees, none, more, nodes_in, nodes_in_all}
use Rattle.plain_tableau.specs.Expansion.{is_closed_branch, has_all, is_due, Expanded, found, open_at, over, put_under, put_before, Expands, closes, stays_open, is_over, makes, ExpandEach, no_more, open_below, over_below, goes_on, first_clash, closing, Expansion, at_once, not_at_once, grows}
use Rattle.plain_tableau.specs.Given.{IsGivenInstance}
use Rattle.plain_tableau.proofs.ListLaws.{first_passes, none_passes}

module _ (limit : ℕ) where
  abbrev IsWithin : ℕ → Expanded SatLit (PlainTree SatLit) → Type 0
  IsWithin made (found t) = made + nodes_in t ≤ limit
  IsWithin made (open_at b) = Unit {0}
  IsWithin made over = Unit {0}

  abbrev AreWithin : ℕ → Expanded SatLit (PlainTrees SatLit) → Type 0
  AreWithin made (found ts) = made + nodes_in_all ts ≤ limit
  AreWithin made (open_at b) = Unit {0}
  AreWithin made over = Unit {0}

  node_within : (made : ℕ) (i : TreeInstance SatLit) (b : List SatLit) (r : Expanded SatLit (PlainTrees SatLit)) → AreWithin (suc made) r → IsWithin made (put_under i b r)
  node_within made i b (found ts) h = omega (arith, h)
  node_within made i b (open_at c) h = tt
  node_within made i b over h = tt

  first_within : (made : ℕ) (t : PlainTree SatLit) (r : Expanded SatLit (PlainTrees SatLit)) → AreWithin (made + nodes_in t) r → AreWithin made (put_before t r)
  first_within made t (found ts) h = omega (arith, h)
  first_within made t (open_at c) h = tt
  first_within made t over h = tt

  mutual
    expands_within : (used : List (TreeInstance SatLit)) (made : ℕ) (b : List SatLit) (r : Expanded SatLit (PlainTree SatLit)) → Expands numbers used limit made b r → made ≤ limit → IsWithin made r
    expands_within used made b r (closes m c e) h = omega (arith, h)
    expands_within used made b r (stays_open m c e n) h = tt
    expands_within used made b r (is_over m c i e n l) h = tt
    expands_within used made b r (makes m c i q e n l each) h = node_within made i b q (each_within used (suc made) b i.alternatives q each (omega (arith, l)))

    each_within : (used : List (TreeInstance SatLit)) (made : ℕ) (b : List SatLit) (as' : List (List SatLit)) (r : Expanded SatLit (PlainTrees SatLit)) → ExpandEach numbers used limit made b as' r → made ≤ limit → AreWithin made r
    each_within used made b as' r (no_more m c) h = omega (arith, h)
    each_within used made b as' r (open_below m c a bs d e) h = tt
    each_within used made b as' r (over_below m c a bs e) h = tt
    each_within used made b as' r (goes_on m c a bs t q e each) h =
        let first : made + nodes_in t ≤ limit = expands_within used made (added numbers b a) (found t) e h in
        first_within made t q (each_within used (made + nodes_in t) b bs q each first)

  pub tree_within : (used : List (TreeInstance SatLit)) (start : List SatLit) (r : Expanded SatLit (PlainTree SatLit)) → Expansion numbers used limit start r → IsWithin 0 r
  tree_within used start r (at_once l e h) = omega (arith, h)
  tree_within used start r (not_at_once l e h) = tt
  tree_within used start r (grows q e h) = expands_within used 0 start r h (omega arith)

module _ (scope : Scope) (rows : List Row) (atoms : List Lambda) where
  abbrev mutual
    -- the tree closes the branch, with right instances
    pub IsGrown : PlainTree SatLit → List SatLit → Type 0
    IsGrown closed b = is_closed_branch numbers b ≡ true
    IsGrown (node i c ts) b = (c ≡ b) × IsGivenInstance scope rows atoms i × (has_all numbers b i.principals ≡ true) × AreGrown ts i.alternatives b

    pub AreGrown : PlainTrees SatLit → List (List SatLit) → List SatLit → Type 0
    AreGrown none [] b = Unit {0}
    AreGrown none (a ∷ as') b = ⊥
    AreGrown (more t ts) [] b = ⊥
    AreGrown (more t ts) (a ∷ as') b = IsGrown t (added numbers b a) × AreGrown ts as' b

  abbrev IsGrownTo : Expanded SatLit (PlainTree SatLit) → List SatLit → Type 0
  IsGrownTo (found t) b = IsGrown t b
  IsGrownTo (open_at c) b = Unit {0}
  IsGrownTo over b = Unit {0}

  abbrev AreGrownTo : Expanded SatLit (PlainTrees SatLit) → List (List SatLit) → List SatLit → Type 0
  AreGrownTo (found ts) as' b = AreGrown ts as' b
  AreGrownTo (open_at c) as' b = Unit {0}
  AreGrownTo over as' b = Unit {0}

  node_grown : (i : TreeInstance SatLit) (b : List SatLit) (r : Expanded SatLit (PlainTrees SatLit)) → IsGivenInstance scope rows atoms i → has_all numbers b i.principals ≡ true → AreGrownTo r i.alternatives b → IsGrownTo (put_under i b r) b
  node_grown i b (found ts) right held h = (refl, right, held, h)
  node_grown i b (open_at c) right held h = tt
  node_grown i b over right held h = tt

  first_grown : (b a : List SatLit) (as' : List (List SatLit)) (t : PlainTree SatLit) (r : Expanded SatLit (PlainTrees SatLit)) → IsGrown t (added numbers b a) → AreGrownTo r as' b → AreGrownTo (put_before t r) (a ∷ as') b
  first_grown b a as' t (found ts) h each = (h, each)
  first_grown b a as' t (open_at c) h each = tt
  first_grown b a as' t over h each = tt

  module _ (used : List (TreeInstance SatLit)) (right : All (IsGivenInstance scope rows atoms) used) (limit : ℕ) where
    mutual
      expands_grown : (made : ℕ) (b : List SatLit) (r : Expanded SatLit (PlainTree SatLit)) → Expands numbers used limit made b r → IsGrownTo r b
      expands_grown made b r (closes m c e) = e
      expands_grown made b r (stays_open m c e n) = tt
      expands_grown made b r (is_over m c i e n l) = tt
      expands_grown made b r (makes m c i q e n l each) =
          let due = first_passes (is_due numbers b) used i n in
          let held = and_parts (has_all numbers b i.principals) _ due.0 in
          node_grown i b q (All-contains (IsGivenInstance scope rows atoms) used i right due.1) held.0 (each_grown (suc made) b i.alternatives q each)

      each_grown : (made : ℕ) (b : List SatLit) (as' : List (List SatLit)) (r : Expanded SatLit (PlainTrees SatLit)) → ExpandEach numbers used limit made b as' r → AreGrownTo r as' b
      each_grown made b as' r (no_more m c) = tt
      each_grown made b as' r (open_below m c a bs d e) = tt
      each_grown made b as' r (over_below m c a bs e) = tt
      each_grown made b as' r (goes_on m c a bs t q e each) = first_grown b a bs t q (expands_grown made (added numbers b a) (found t) e) (each_grown (made + nodes_in t) b bs q each)

    -- a tree that an expansion comes to is a node, and closes the start
    pub record IsWhole (start : List SatLit) (t : PlainTree SatLit) : Type 0 where
      pub instance : TreeInstance SatLit
      pub children : PlainTrees SatLit
      pub is : t ≡ node instance start children
      pub grown : IsGrown t start

    whole_grown : (start : List SatLit) (t : PlainTree SatLit) → is_closed_branch numbers start ≡ false → IsGrown t start → IsWhole start t
    whole_grown start closed e h = absurd (false≢true (sym e ∙ h))
    whole_grown start (node i c ts) e h = record { instance = i; children = ts; is = ap (λ x. node i x ts) h.0; grown = h }

    closing_grown : (start : List SatLit) (l : SatLit) → first_clash numbers start ≡ Some l → IsGrown (node (closing numbers l) start none) start
    closing_grown start l e =
        let clash = first_passes (λ m. holds start (negated m)) start l e in (
          refl,
          record { fits = close_rule 0 1 (literal_at atoms l); no_cut = refl },
          both (holds start l) (holds start (negated l)) (held_in start l clash.1) clash.0,
          tt,
        )
      where
        both : (x y : Bool) → x ≡ true → y ≡ true → (x && (y && true)) ≡ true
        both true true h k = refl
        both true false h k = absurd (false≢true k)
        both false y h k = absurd (false≢true h)

    pub expansion_whole : (start : List SatLit) (r : Expanded SatLit (PlainTree SatLit)) → Expansion numbers used limit start r → (t : PlainTree SatLit) → r ≡ found t → IsWhole start t
    expansion_whole start r (at_once l e h) t is =
        let same : node (closing numbers l) start none ≡ t = cc in
        subst (IsWhole start) same (record { instance = closing numbers l; children = none; is = refl; grown = closing_grown start l e })
    expansion_whole start r (not_at_once l e h) t is = cc
    expansion_whole start r (grows q e h) t is =
        whole_grown start t (none_passes (λ m. holds start (negated m)) start e) (subst (λ x. IsGrownTo x start) is (expands_grown 0 start r h))
