-- Partial terms whose first hole is filled.
use Rattle.std.specs.Prelude.{◌≡◌, ◌+◌, ◌<◌, ◌≤◌, ◌++◌, ℕ, zero, suc, List, [], ◌∷◌, Option, Some, None, length, set, slice_get, take, drop, unwrap_or, refl}
use Rattle.std.proofs.Common.{ap, ap₂, sym, ◌∙◌, append_assoc, append-nil, take_all, arith}
use Rattle.std.proofs.lemmas.List.{drop-set-lt, take_more_set}
use Rattle.std.proofs.lemmas.Option.{slice_get_within}
use Rattle.stt_core.specs.SimpleType.{SimpleType, base, arrow}
use Rattle.stt_core.specs.Lambda.{Lambda}
use Rattle.search_spec.specs.Partial.{Partial, head, application, in_first, with_filling, blank_partial, with_holes}
use Rattle.instantiate.specs.PartialView.{applications}
use Rattle.instantiate.specs.Internal.Holes.{placed_partial, filling, filling_all}
use Rattle.instantiate.specs.Internal.Blanks.{blanks}
use Rattle.instantiate.proofs.HoleLaws.{drop-at}

pub with_holes-blanks : (a : SimpleType) (p : Partial) → with_holes a p ≡ applications p (blanks a)
with_holes-blanks (base n) p = refl
with_holes-blanks (arrow a b) p = with_holes-blanks b (application p (blank_partial a))

pub placed-first : (r p : Partial) (o : Option Partial) → (placed_partial r p o).0 ≡ unwrap_or o p
placed-first r p (Some q) = refl
placed-first r p None = refl

filling-application : (o : Option Partial) (p q : Partial) → filling o (application p q) ≡ (application (filling o p).0 (filling (filling o p).1 q).0, (filling (filling o p).1 q).1)
filling-application None p q = refl
filling-application (Some r) p q = go (with_filling r p)
  where
    second : (y : Option Partial) → placed_partial r (application p q) (in_first None p y q) ≡ (application p (placed_partial r q y).0, (placed_partial r q y).1)
    second (Some q') = refl
    second None = refl

    go : (x : Option Partial) → placed_partial r (application p q) (in_first x p (with_filling r q) q) ≡ (application (placed_partial r p x).0 (filling (placed_partial r p x).1 q).0, (filling (placed_partial r p x).1 q).1)
    go (Some p') = refl
    go None = second (with_filling r q)

filling-applications : (o : Option Partial) (p : Partial) (qs : List Partial) → filling o (applications p qs) ≡ (applications (filling o p).0 (filling_all (filling o p).1 qs).0, (filling_all (filling o p).1 qs).1)
filling-applications o p [] = refl
filling-applications o p (q ∷ qs) =
    filling-applications o (application p q) qs
    ∙ ap (λ (x : Partial × Option Partial). (applications x.0 (filling_all x.1 qs).0, (filling_all x.1 qs).1)) (filling-application o p q)

-- a head stays, and what fills goes on to its arguments
pub filling-spine : (o : Option Partial) (h : Lambda) (qs : List Partial) → filling o (applications (head h) qs) ≡ (applications (head h) (filling_all o qs).0, (filling_all o qs).1)
filling-spine o h qs = filling-applications o (head h) qs ∙ ap (λ (x : Partial × Option Partial). (applications x.0 (filling_all x.1 qs).0, (filling_all x.1 qs).1)) (leaf o)
  where
    leaf : (o : Option Partial) → filling o (head h) ≡ (head h, o)
    leaf None = refl
    leaf (Some r) = refl

-- one more copy
module _ (f f' : Option Partial) (ps : List Partial) (i : ℕ) (p x : Partial) (at : slice_get ps i ≡ Some p) (copy : x ≡ (filling f p).0) (left : f' ≡ (filling f p).1) where
  pub copies-later : (cs cs' : List Partial) → cs' ≡ cs ++ x ∷ [] → cs' ++ (filling_all f' (drop (i + 1) ps)).0 ≡ cs ++ (filling_all f (drop i ps)).0
  copies-later cs cs' e =
      ap₂ (λ ds g. ds ++ (filling_all g (drop (i + 1) ps)).0) e left
      ∙ append_assoc cs (x ∷ []) (filling_all (filling f p).1 (drop (i + 1) ps)).0
      ∙ ap (λ y. cs ++ y ∷ (filling_all (filling f p).1 (drop (i + 1) ps)).0) copy
      ∙ ap (λ qs. cs ++ (filling_all f qs).0) (sym (drop-at ps i p at))

  pub left-later : (filling_all f' (drop (i + 1) ps)).1 ≡ (filling_all f (drop i ps)).1
  left-later = ap (λ g. (filling_all g (drop (i + 1) ps)).1) left ∙ ap (λ qs. (filling_all f qs).1) (sym (drop-at ps i p at))

first_after : {X : Type 0} (xs : List X) (i : ℕ) → slice_get (drop i xs) 0 ≡ slice_get xs i
first_after [] zero = refl
first_after [] (suc i) = refl
first_after (x ∷ xs) zero = refl
first_after (x ∷ xs) (suc i) = first_after xs i

none_after : {X : Type 0} (xs : List X) (i : ℕ) → length xs ≤ i → drop i xs ≡ []
none_after [] zero h = refl
none_after [] (suc i) h = refl
none_after (x ∷ xs) zero h = absurd (omega (arith, h))
none_after (x ∷ xs) (suc i) h = none_after xs i (omega (arith, h))

-- of a list that is filled from the left what stands at a place, where the rest is as it was
module _ (f f' : Option Partial) (xs ys : List Partial) (i : ℕ) (p x : Partial) (later : drop i xs ≡ drop i ys) (at : slice_get xs i ≡ Some p) (filled : x ≡ (filling f p).0) (left : f' ≡ (filling f p).1) where
  pub at-later : slice_get ys i ≡ Some p
  at-later = sym (first_after ys i) ∙ ap (λ zs. slice_get zs 0) (sym later) ∙ first_after xs i ∙ at

  pub drop-later : drop (i + 1) (set xs i x) ≡ drop (i + 1) ys
  drop-later =
      let next : i < i + 1 = omega arith in
      drop-set-lt (i + 1) xs i x next ∙ ap (drop 1) (sym (drop-at xs i p at) ∙ later ∙ drop-at ys i p at-later)

  pub filled-later : take (i + 1) (set xs i x) ++ (filling_all f' (drop (i + 1) ys)).0 ≡ take i xs ++ (filling_all f (drop i ys)).0
  filled-later = copies-later f f' ys i p x at-later filled left (take i xs) (take (i + 1) (set xs i x)) (take_more_set xs i x (slice_get_within xs i p at))

  pub filler-later : (filling_all f' (drop (i + 1) ys)).1 ≡ (filling_all f (drop i ys)).1
  filler-later = left-later f f' ys i p x at-later filled left

-- all of a list is filled
module _ (f g : Option Partial) (xs ys : List Partial) (i : ℕ) (passed : length ys ≤ i) (count : length xs ≡ length ys) where
  pub filled-whole : take i xs ++ (filling_all f (drop i ys)).0 ≡ (filling_all g ys).0 → xs ≡ (filling_all g ys).0
  filled-whole e =
      sym (append-nil xs)
      ∙ ap (λ zs. zs ++ []) (sym (take_all i xs (omega (arith, passed, count))))
      ∙ ap (λ (zs : List Partial). take i xs ++ (filling_all f zs).0) (sym (none_after ys i passed))
      ∙ e

  pub filler-whole : (filling_all f (drop i ys)).1 ≡ (filling_all g ys).1 → f ≡ (filling_all g ys).1
  filler-whole e = ap (λ (zs : List Partial). (filling_all f zs).1) (sym (none_after ys i passed)) ∙ e
