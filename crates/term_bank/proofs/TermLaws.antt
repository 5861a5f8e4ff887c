-- The terms of nodes, each of which stands on earlier ones.
use Rattle.std.proofs.Common.{◌≡◌, ℕ, zero, suc, ◌+◌, ◌<◌, List, [], ◌∷◌, ◌++◌, length, slice_get, Some, refl, sym, ap, subst, ◌∙◌, append_assoc, append-nil, arith, length-append}
use Rattle.std.proofs.lemmas.Option.{same_Some}
use Rattle.stt_core.specs.Lambda.{Lambda, bound, lam, applied}
use Rattle.term_bank.specs.Shape.{Shape, abstraction, spine}
use Rattle.term_bank.specs.Internal.Sound.{terms_after}
use Rattle.term_bank.specs.Terms.{term_at, shape_term, IsBelow}
use Rattle.stt_core.proofs.ListLaws.{slice_get-append, slice_get-end}
use Rattle.term_bank.proofs.ListLaws.{get_or-front, map-same}

-- a node that stands on earlier terms has the same term where further terms come
pub shape_term-front : (ts us : List Lambda) (s : Shape) → IsBelow (length ts) s → shape_term (ts ++ us) s ≡ shape_term ts s
shape_term-front ts us (abstraction a i) h = ap (lam a) (get_or-front ts us i (bound 0) h)
shape_term-front ts us (spine h is) b =
    ap (applied h) (map-same (λ i. i < length ts) (term_at (ts ++ us)) (term_at ts) (λ i l. get_or-front ts us i (bound 0) l) is b)

pub terms_after-length : (ts : List Lambda) (shapes : List Shape) → length (terms_after ts shapes) ≡ length ts + length shapes
unfolding terms_after
terms_after-length ts [] = omega arith
terms_after-length ts (s ∷ shapes) =
    omega (arith, terms_after-length (ts ++ shape_term ts s ∷ []) shapes, length-append ts (shape_term ts s ∷ []))

-- one node more
pub terms_after-end : (ts : List Lambda) (shapes : List Shape) (s : Shape) → terms_after ts (shapes ++ s ∷ []) ≡ terms_after ts shapes ++ shape_term (terms_after ts shapes) s ∷ []
unfolding terms_after
terms_after-end ts [] s = refl
terms_after-end ts (r ∷ shapes) s = terms_after-end (ts ++ shape_term ts r ∷ []) shapes s

-- the terms that were there
pub record Further (ts us : List Lambda) : Type 0 where
  pub more : List Lambda
  pub is : us ≡ ts ++ more

pub terms_after-front : (ts : List Lambda) (shapes : List Shape) → Further ts (terms_after ts shapes)
unfolding terms_after
terms_after-front ts [] = record { more = []; is = sym (append-nil ts) }
terms_after-front ts (s ∷ shapes) =
    let f = terms_after-front (ts ++ shape_term ts s ∷ []) shapes in
    record { more = shape_term ts s ∷ f.more; is = f.is ∙ append_assoc ts (shape_term ts s ∷ []) f.more }

-- each node stands on terms before its own, where the first has place n
abbrev pub AreBelow : ℕ → List Shape → Type 0
AreBelow n shapes = (k : ℕ) (s : Shape) → slice_get shapes k ≡ Some s → IsBelow (n + k) s

below-tail : (n : ℕ) (r : Shape) (shapes : List Shape) → AreBelow n (r ∷ shapes) → AreBelow (suc n) shapes
below-tail n r shapes h k s g = let e : n + suc k ≡ suc n + k = omega arith in subst (λ m. IsBelow m s) e (h (suc k) s g)

-- the term at a node's place is the node's
pub term_of_node : (ts : List Lambda) (shapes : List Shape) → AreBelow (length ts) shapes → (k : ℕ) (s : Shape) → slice_get shapes k ≡ Some s → slice_get (terms_after ts shapes) (length ts + k) ≡ Some (shape_term (terms_after ts shapes) s)
unfolding terms_after
term_of_node ts [] b k s g = cc
term_of_node ts (r ∷ shapes) b zero s g =
    let whole = terms_after (ts ++ shape_term ts r ∷ []) shapes in
    let f = terms_after-front (ts ++ shape_term ts r ∷ []) shapes in
    let e : r ≡ s = same_Some r s g in
    let n : length ts + 0 ≡ length ts = omega arith in
    let low : IsBelow (length ts) r = subst (λ m. IsBelow m r) n (b 0 r refl) in
    let here : slice_get whole (length ts) ≡ Some (shape_term ts r) =
    ap (λ l. slice_get l (length ts)) f.is
    ∙ slice_get-append (ts ++ shape_term ts r ∷ []) f.more (length ts) (shape_term ts r) (slice_get-end ts (shape_term ts r)) in
    let same : shape_term whole r ≡ shape_term ts r =
    ap (λ l. shape_term l r) (f.is ∙ append_assoc ts (shape_term ts r ∷ []) f.more)
    ∙ shape_term-front ts (shape_term ts r ∷ f.more) r low in
    ap (slice_get whole) n ∙ here ∙ ap Some (sym same) ∙ ap (λ x. Some (shape_term whole x)) e
term_of_node ts (r ∷ shapes) b (suc k) s g =
    let ts' = ts ++ shape_term ts r ∷ [] in
    let n : length ts' ≡ suc (length ts) = omega (arith, length-append ts (shape_term ts r ∷ [])) in
    let b' : AreBelow (length ts') shapes = subst (λ m. AreBelow m shapes) (sym n) (below-tail (length ts) r shapes b) in
    let e : length ts + suc k ≡ length ts' + k = omega (arith, n) in
    ap (slice_get (terms_after ts' shapes)) e ∙ term_of_node ts' shapes b' k s g
