-- Expansions in numbers stand for expansions in formulas.
use Rattle.std.specs.Prelude.{if◌then◌else◌}
use Rattle.std.proofs.Common.{◌≡◌, ◌<◌, ◌≤◌, ◌+◌, ◌||◌, ◌&&◌, ◌++◌, ℕ, zero, suc, cond, not, Bool, true, false, List, [], ◌∷◌, map, Some, option_map, slice_get, refl, sym, ap, ap₂, ◌∙◌, subst}
use Rattle.std.specs.List.{list_any, position_or_len}
use Rattle.std.proofs.lemmas.Option.{slice_get-map}
use Rattle.stt_core.specs.Lambda.{Lambda}
use Rattle.tableau_calculus.specs.Literals.{Literal, opposite}
use Rattle.sat_base.specs.declared.literal.SatLit.{SatLit}
use Rattle.sat_base.specs.Literal.{negated, holds}
use Rattle.tableau_calculus.specs.Kinds.{has, added}
use Rattle.tableau_calculus.specs.Each.{Each}
use Rattle.search_spec.specs.Numbered.{numbers, literal_at, IsNumber, AreApart}
use Rattle.tableau_calculus.specs.Kinds.{formulas}
use Rattle.search_spec.proofs.NamingLaws.{each-joined, has-mapped, added-mapped}
use Rattle.search_spec.proofs.UnsatLaws.{numbers_stand}
use Rattle.rebuild_spec.specs.Input.{literals_of}
use Rattle.plain_tableau.specs.Trees.{TreeInstance, PlainTree, closed, node, PlainTrees, none, more, nodes_in, nodes_in_all}
use Rattle.plain_tableau.specs.Expansion.{is_closed_branch, has_all, is_due, next_due, Expanded, found, open_at, over, put_under, put_before, Expands, closes, stays_open, is_over, makes, ExpandEach, no_more, open_below, over_below, goes_on, first_clash, Expansion, at_once, not_at_once, grows}
use Rattle.plain_tableau.specs.Carried.{instance_in, tree_in, trees_in, result_in, IsNumberedInstance, NumbersExpandAsFormulas}

abbrev results_in : List Lambda → Expanded SatLit (PlainTrees SatLit) → Expanded Literal (PlainTrees Literal)
results_in atoms (found ts) = found (trees_in atoms ts)
results_in atoms (open_at b) = open_at (literals_of atoms b)
results_in atoms over = over

each_at : {A : Type 0} (P : A → Type 0) (xs : List A) (n : ℕ) (x : A) → Each P xs → slice_get xs n ≡ Some x → P x
each_at P [] n x h e = cc
each_at P (y ∷ xs) zero x h e = let same : y ≡ x = cc in subst P same h.0
each_at P (y ∷ xs) (suc n) x h e = each_at P xs n x h.1 e

module _ (atoms : List Lambda) (apart : AreApart atoms) where
  abbrev Good : SatLit → Type 0
  Good l = IsNumber atoms l

  abbrev d : SatLit → Literal
  d l = literal_at atoms l

  has_same : (b : List SatLit) (l : SatLit) → Each Good b → Good l → has formulas (map d b) (d l) ≡ holds b l
  has_same b l gb gl = has-mapped numbers formulas Good d (numbers_stand atoms apart) b l gb gl

  closed_from : (b c : List SatLit) → Each Good b → Each Good c → list_any (λ l. has formulas (map d b) (opposite l)) (map d c) ≡ list_any (λ l. holds b (negated l)) c
  closed_from b [] gb gc = refl
  closed_from b (l ∷ c) gb gc = ap₂ (λ x y. x || y) (has_same b (negated l) gb gc.0) (closed_from b c gb gc.1)

  closed_same : (b : List SatLit) → Each Good b → is_closed_branch formulas (map d b) ≡ is_closed_branch numbers b
  closed_same b g = closed_from b b g g

  all_same : (b ls : List SatLit) → Each Good b → Each Good ls → has_all formulas (map d b) (map d ls) ≡ has_all numbers b ls
  all_same b [] gb gl = refl
  all_same b (l ∷ ls) gb gl = ap₂ (λ x y. x && y) (has_same b l gb gl.0) (all_same b ls gb gl.1)

  some_same : (b : List SatLit) (as' : List (List SatLit)) → Each Good b → Each (Each Good) as' → list_any (has_all formulas (map d b)) (map (map d) as') ≡ list_any (has_all numbers b) as'
  some_same b [] gb ga = refl
  some_same b (a ∷ as') gb ga = ap₂ (λ x y. x || y) (all_same b a gb ga.0) (some_same b as' gb ga.1)

  due_same : (b : List SatLit) (i : TreeInstance SatLit) → Each Good b → IsNumberedInstance atoms i → is_due formulas (map d b) (instance_in atoms i) ≡ is_due numbers b i
  due_same b i gb gi = ap₂ (λ x y. x && not y) (all_same b i.principals gb gi.principals) (some_same b i.alternatives gb gi.alternatives)

  place_same : (b : List SatLit) (used : List (TreeInstance SatLit)) → Each Good b → Each (IsNumberedInstance atoms) used → position_or_len (is_due formulas (map d b)) (map (instance_in atoms) used) ≡ position_or_len (is_due numbers b) used
  place_same b [] gb gu = refl
  place_same b (i ∷ used) gb gu = ap₂ (λ x n. cond (not x) (1 + n) 0) (due_same b i gb gu.0) (place_same b used gb gu.1)

  next_same : (b : List SatLit) (used : List (TreeInstance SatLit)) → Each Good b → Each (IsNumberedInstance atoms) used → next_due formulas (map (instance_in atoms) used) (map d b) ≡ option_map (instance_in atoms) (next_due numbers used b)
  next_same b used gb gu = ap (slice_get (map (instance_in atoms) used)) (place_same b used gb gu) ∙ slice_get-map (instance_in atoms) used (position_or_len (is_due numbers b) used)

  clash_place : (b c : List SatLit) → Each Good b → Each Good c → position_or_len (λ l. has formulas (map d b) (opposite l)) (map d c) ≡ position_or_len (λ l. holds b (negated l)) c
  clash_place b [] gb gc = refl
  clash_place b (l ∷ c) gb gc = ap₂ (λ x n. cond (not x) (1 + n) 0) (has_same b (negated l) gb gc.0) (clash_place b c gb gc.1)

  clash_same : (b : List SatLit) → Each Good b → first_clash formulas (map d b) ≡ option_map d (first_clash numbers b)
  clash_same b g = ap (slice_get (map d b)) (clash_place b b g g) ∙ slice_get-map d b (position_or_len (λ l. holds b (negated l)) b)

  added_good : (b ls : List SatLit) → Each Good b → Each Good ls → Each Good (added numbers b ls)
  added_good b [] gb gl = gb
  added_good b (l ∷ ls) gb gl = go (holds b l) (λ c gc. added_good c ls gc gl.1)
    where
      go : (x : Bool) → ((c : List SatLit) → Each Good c → Each Good (added numbers c ls)) → Each Good (added numbers (if x then b else b ++ l ∷ []) ls)
      go true rest = rest b gb
      go false rest = rest (b ++ l ∷ []) (each-joined Good b (l ∷ []) gb (gl.0, tt))

  added_same : (b ls : List SatLit) → Each Good b → Each Good ls → map d (added numbers b ls) ≡ added formulas (map d b) (map d ls)
  added_same b ls gb gl = sym (added-mapped numbers formulas Good d (numbers_stand atoms apart) b ls gb gl)

  mutual
    size_same : (t : PlainTree SatLit) → nodes_in (tree_in atoms t) ≡ nodes_in t
    size_same closed = refl
    size_same (node i b ts) = ap suc (sizes_same ts)

    sizes_same : (ts : PlainTrees SatLit) → nodes_in_all (trees_in atoms ts) ≡ nodes_in_all ts
    sizes_same none = refl
    sizes_same (more t ts) = ap₂ (λ x y. x + y) (size_same t) (sizes_same ts)

  under_same : (i : TreeInstance SatLit) (b : List SatLit) (r : Expanded SatLit (PlainTrees SatLit)) → put_under (instance_in atoms i) (map d b) (results_in atoms r) ≡ result_in atoms (put_under i b r)
  under_same i b (found ts) = refl
  under_same i b (open_at c) = refl
  under_same i b over = refl

  before_same : (t : PlainTree SatLit) (r : Expanded SatLit (PlainTrees SatLit)) → put_before (tree_in atoms t) (results_in atoms r) ≡ results_in atoms (put_before t r)
  before_same t (found ts) = refl
  before_same t (open_at c) = refl
  before_same t over = refl

  module _ (used : List (TreeInstance SatLit)) (gu : Each (IsNumberedInstance atoms) used) (limit : ℕ) where
    abbrev used_in : List (TreeInstance Literal)
    used_in = map (instance_in atoms) used

    mutual
      carried : (made : ℕ) (b : List SatLit) (r : Expanded SatLit (PlainTree SatLit)) → Each Good b → Expands numbers used limit made b r → Expands formulas used_in limit made (map d b) (result_in atoms r)
      carried made b r g (closes m c e) = closes made (map d b) (closed_same b g ∙ e)
      carried made b r g (stays_open m c e n) = stays_open made (map d b) (closed_same b g ∙ e) (next_same b used g gu ∙ ap (option_map (instance_in atoms)) n)
      carried made b r g (is_over m c i e n l) = is_over made (map d b) (instance_in atoms i) (closed_same b g ∙ e) (next_same b used g gu ∙ ap (option_map (instance_in atoms)) n) l
      carried made b r g (makes m c i q e n l each) =
          let gi = each_at (IsNumberedInstance atoms) used (position_or_len (is_due numbers b) used) i gu n in
          subst (Expands formulas used_in limit made (map d b)) (under_same i b q)
          (makes made (map d b) (instance_in atoms i) (results_in atoms q) (closed_same b g ∙ e) (next_same b used g gu ∙ ap (option_map (instance_in atoms)) n) l (carried_each (suc made) b i.alternatives q g gi.alternatives each))

      carried_each : (made : ℕ) (b : List SatLit) (as' : List (List SatLit)) (r : Expanded SatLit (PlainTrees SatLit)) → Each Good b → Each (Each Good) as' → ExpandEach numbers used limit made b as' r → ExpandEach formulas used_in limit made (map d b) (map (map d) as') (results_in atoms r)
      carried_each made b as' r g ga (no_more m c) = no_more made (map d b)
      carried_each made b as' r g ga (open_below m c a bs x e) =
          open_below made (map d b) (map d a) (map (map d) bs) (map d x) (subst (λ c. Expands formulas used_in limit made c (open_at (map d x))) (added_same b a g ga.0) (carried made (added numbers b a) (open_at x) (added_good b a g ga.0) e))
      carried_each made b as' r g ga (over_below m c a bs e) =
          over_below made (map d b) (map d a) (map (map d) bs) (subst (λ c. Expands formulas used_in limit made c over) (added_same b a g ga.0) (carried made (added numbers b a) over (added_good b a g ga.0) e))
      carried_each made b as' r g ga (goes_on m c a bs t q e each) =
          let first = subst (λ c. Expands formulas used_in limit made c (found (tree_in atoms t))) (added_same b a g ga.0) (carried made (added numbers b a) (found t) (added_good b a g ga.0) e) in
          let rest = subst (λ n. ExpandEach formulas used_in limit (made + n) (map d b) (map (map d) bs) (results_in atoms q)) (sym (size_same t)) (carried_each (made + nodes_in t) b bs q g ga.1 each) in
          subst (ExpandEach formulas used_in limit made (map d b) (map (map d) (a ∷ bs))) (before_same t q) (goes_on made (map d b) (map d a) (map (map d) bs) (tree_in atoms t) (results_in atoms q) first rest)

    pub expansion_carried : (start : List SatLit) (r : Expanded SatLit (PlainTree SatLit)) → Each Good start → Expansion numbers used limit start r → Expansion formulas used_in limit (map d start) (result_in atoms r)
    expansion_carried start r g (at_once l e h) = at_once (d l) (clash_same start g ∙ ap (option_map d) e) h
    expansion_carried start r g (not_at_once l e h) = not_at_once (d l) (clash_same start g ∙ ap (option_map d) e) h
    expansion_carried start r g (grows q e h) = grows (result_in atoms r) (clash_same start g ∙ ap (option_map d) e) (carried 0 start r g h)

pub numbers_expand : NumbersExpandAsFormulas
numbers_expand atoms apart used limit start r gu g h = expansion_carried atoms apart used gu limit start r g h
