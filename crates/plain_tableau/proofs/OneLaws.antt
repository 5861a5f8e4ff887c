-- An expansion comes to one thing at most.
use Rattle.std.proofs.Common.{◌≡◌, ◌+◌, ◌<◌, ◌≤◌, ℕ, suc, true, false, List, [], ◌∷◌, Some, None, refl, sym, ap, ap₂, ◌∙◌, subst, arith}
use Rattle.tableau_calculus.specs.Kinds.{Kind, added}
use Rattle.plain_tableau.specs.Trees.{TreeInstance, PlainTree, node, PlainTrees, none, nodes_in}
use Rattle.plain_tableau.specs.Expansion.{is_closed_branch, next_due, Expanded, found, open_at, over, put_under, put_before, Expands, closes, stays_open, is_over, makes, ExpandEach, no_more, open_below, over_below, goes_on, closing, Expansion, at_once, not_at_once, grows}
use Rattle.plain_tableau.specs.Laws.{OneExpansion}

module _ {L : Type 0} (kind : Kind L) (used : List (TreeInstance L)) (limit : ℕ) where
  clash : {P : Type 0} (b : List L) → is_closed_branch kind b ≡ true → is_closed_branch kind b ≡ false → P
  clash b e f = cc

  lacks : {P : Type 0} (b : List L) (i : TreeInstance L) → next_due kind used b ≡ None → next_due kind used b ≡ Some i → P
  lacks b i e f = cc

  same_next : (b : List L) (i k : TreeInstance L) → next_due kind used b ≡ Some i → next_due kind used b ≡ Some k → i ≡ k
  same_next b i k e f = cc

  mutual
    one : (made : ℕ) (b : List L) (r q : Expanded L (PlainTree L)) → Expands kind used limit made b r → Expands kind used limit made b q → r ≡ q
    one made b r q (closes m c e) (closes n d f) = refl
    one made b r q (closes m c e) (stays_open n d f g) = clash b e f
    one made b r q (closes m c e) (is_over n d i f g h) = clash b e f
    one made b r q (closes m c e) (makes n d i s f g h each) = clash b e f
    one made b r q (stays_open m c e j) (closes n d f) = clash b f e
    one made b r q (stays_open m c e j) (stays_open n d f g) = refl
    one made b r q (stays_open m c e j) (is_over n d i f g h) = lacks b i j g
    one made b r q (stays_open m c e j) (makes n d i s f g h each) = lacks b i j g
    one made b r q (is_over m c k e j l) (closes n d f) = clash b f e
    one made b r q (is_over m c k e j l) (stays_open n d f g) = lacks b k g j
    one made b r q (is_over m c k e j l) (is_over n d i f g h) = refl
    one made b r q (is_over m c k e j l) (makes n d i s f g h each) = absurd (omega (arith, l, h))
    one made b r q (makes m c k t e j l all) (closes n d f) = clash b f e
    one made b r q (makes m c k t e j l all) (stays_open n d f g) = lacks b k g j
    one made b r q (makes m c k t e j l all) (is_over n d i f g h) = absurd (omega (arith, l, h))
    one made b r q (makes m c k t e j l all) (makes n d i s f g h each) =
        let same : i ≡ k = same_next b i k g j in
        let rest : t ≡ s = one_each (suc made) b k.alternatives t s all (subst (λ x. ExpandEach kind used limit (suc made) b x.alternatives s) same each) in
        ap₂ (λ x y. put_under x b y) (sym same) rest

    one_each : (made : ℕ) (b : List L) (as' : List (List L)) (r q : Expanded L (PlainTrees L)) → ExpandEach kind used limit made b as' r → ExpandEach kind used limit made b as' q → r ≡ q
    one_each made b as' r q (no_more m c) (no_more n d) = refl
    one_each made b as' r q (open_below m c a cs x e) (open_below n d k ds y f) = let same = one made (added kind b a) (open_at x) (open_at y) e f in cc
    one_each made b as' r q (open_below m c a cs x e) (over_below n d k ds f) = let same = one made (added kind b a) (open_at x) over e f in cc
    one_each made b as' r q (open_below m c a cs x e) (goes_on n d k ds t s f each) = let same = one made (added kind b a) (open_at x) (found t) e f in cc
    one_each made b as' r q (over_below m c a cs e) (open_below n d k ds y f) = let same = one made (added kind b a) over (open_at y) e f in cc
    one_each made b as' r q (over_below m c a cs e) (over_below n d k ds f) = refl
    one_each made b as' r q (over_below m c a cs e) (goes_on n d k ds t s f each) = let same = one made (added kind b a) over (found t) e f in cc
    one_each made b as' r q (goes_on m c a cs u v e all) (open_below n d k ds y f) = let same = one made (added kind b a) (found u) (open_at y) e f in cc
    one_each made b as' r q (goes_on m c a cs u v e all) (over_below n d k ds f) = let same = one made (added kind b a) (found u) over e f in cc
    one_each made b as' r q (goes_on m c a cs u v e all) (goes_on n d k ds t s f each) =
        let whole = one made (added kind b a) (found u) (found t) e f in
        let same : t ≡ u = cc in
        let rest : v ≡ s = one_each (made + nodes_in u) b cs v s all (subst (λ x. ExpandEach kind used limit (made + nodes_in x) b cs s) same each) in
        ap₂ put_before (sym same) rest

expansion_one : {L : Type 0} (kind : Kind L) (used : List (TreeInstance L)) (limit : ℕ) (start : List L) (r q : Expanded L (PlainTree L)) → Expansion kind used limit start r → Expansion kind used limit start q → r ≡ q
expansion_one kind used limit start r q (at_once l e h) (at_once k f g) = let same : l ≡ k = cc in ap (λ x. found (node (closing kind x) start none)) same
expansion_one kind used limit start r q (at_once l e h) (not_at_once k f g) = absurd (omega (arith, h, g))
expansion_one kind used limit start r q (at_once l e h) (grows x f g) = cc
expansion_one kind used limit start r q (not_at_once l e h) (at_once k f g) = absurd (omega (arith, h, g))
expansion_one kind used limit start r q (not_at_once l e h) (not_at_once k f g) = refl
expansion_one kind used limit start r q (not_at_once l e h) (grows x f g) = cc
expansion_one kind used limit start r q (grows y e h) (at_once k f g) = cc
expansion_one kind used limit start r q (grows y e h) (not_at_once k f g) = cc
expansion_one kind used limit start r q (grows y e h) (grows x f g) = one kind used limit 0 start r q h g

pub one_expansion : {L : Type 0} (kind : Kind L) → OneExpansion kind
one_expansion kind = expansion_one kind
