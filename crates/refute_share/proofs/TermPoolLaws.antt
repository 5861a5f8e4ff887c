-- Terms that are kept at their numbers.
use Rattle.std.proofs.Common.{◌≡◌, ℕ, zero, suc, List, [], ◌∷◌, ◌++◌, map, Option, Some, None, option_map, slice_get, slice_set, refl, sym, ap, subst, ◌∙◌}
use Rattle.std.proofs.lemmas.Option.{same_Some, slice_get-map}
use Rattle.stt_core.specs.Lambda.{Lambda}
use Rattle.term_bank.specs.Terms.{term_at}
use Rattle.refute_share.specs.KnownTerms.{KnowsTerms}
use Rattle.refute_share.specs.Internal.Room.{HasNoMore}

-- an empty place more
pub none-last : {A : Type 0} (old xs : List (Option A)) → HasNoMore old xs → HasNoMore old (xs ++ None ∷ [])
none-last old xs h = λ i x at. h i x (go xs i x at)
  where
    go : {A : Type 0} (xs : List (Option A)) (i : ℕ) (x : A) → slice_get (xs ++ None ∷ []) i ≡ Some (Some x) → slice_get xs i ≡ Some (Some x)
    go [] zero x at = cc
    go [] (suc i) x at = cc
    go (y ∷ ys) zero x at = at
    go (y ∷ ys) (suc i) x at = go ys i x at

module _ {R : Type 0} (V : R → Lambda) where
  -- what the places stand for
  abbrev shown : List (Option R) → List (Option Lambda)
  shown xs = map (option_map V) xs

  taken : (o : Option R) (t : Lambda) → Some (option_map V o) ≡ Some (Some t) → (r : R) × (o ≡ Some r) × (V r ≡ t)
  taken None t h = cc
  taken (Some r) t h = (r, refl, same_Some (V r) t (same_Some (Some (V r)) (Some t) h))

  unshown : (xs : List (Option R)) (i : ℕ) (t : Lambda) → slice_get (shown xs) i ≡ Some (Some t) → (r : R) × (slice_get xs i ≡ Some (Some r)) × (V r ≡ t)
  unshown [] i t h = cc
  unshown (o ∷ xs) zero t h = let r = taken o t h in (r.0, ap Some r.1, r.2)
  unshown (o ∷ xs) (suc i) t h = unshown xs i t h

  -- a term that is found
  pub found-term : (xs : List (Option R)) (known : List (Option Lambda)) (i : ℕ) (r : R) → shown xs ≡ known → slice_get xs i ≡ Some (Some r) → slice_get known i ≡ Some (Some (V r))
  found-term xs known i r is at = ap (λ l. slice_get l i) (sym is) ∙ slice_get-map (option_map V) xs i ∙ ap (option_map (option_map V)) at

  -- with more room the same is known
  wider : (terms : List Lambda) (old new : List (Option R)) → HasNoMore old new → KnowsTerms terms (shown old) → KnowsTerms terms (shown new)
  wider terms old new same k = λ i t h.
      let r = unshown new i t h in
      k i t (slice_get-map (option_map V) old i ∙ ap (option_map (option_map V)) (same i r.0 r.1) ∙ ap (λ u. Some (Some u)) r.2)

  placed : (Q : ℕ → Lambda → Type 0) (xs : List (Option R)) (p : ℕ) (r : R) → Q p (V r) → ((i : ℕ) (t : Lambda) → slice_get (shown xs) i ≡ Some (Some t) → Q i t) → (i : ℕ) (t : Lambda) → slice_get (shown (slice_set xs p (Some r))) i ≡ Some (Some t) → Q i t
  placed Q [] p r q k i t h = k i t h
  placed Q (x ∷ xs) zero r q k zero t h = subst (Q zero) (same_Some (V r) t (same_Some (Some (V r)) (Some t) h)) q
  placed Q (x ∷ xs) zero r q k (suc i) t h = k (suc i) t h
  placed Q (x ∷ xs) (suc p) r q k zero t h = k zero t h
  placed Q (x ∷ xs) (suc p) r q k (suc i) t h = placed (λ j. Q (suc j)) xs p r q (λ j. k (suc j)) i t h

  -- a right term more
  pub kept-term : (terms : List Lambda) (old wide new : List (Option R)) (known : List (Option Lambda)) (p : ℕ) (r : R) → shown old ≡ known → HasNoMore old wide → new ≡ slice_set wide p (Some r) → V r ≡ term_at terms p → KnowsTerms terms known → KnowsTerms terms (shown new)
  kept-term terms old wide new known p r is same e v k =
      let before = wider terms old wide same (subst (KnowsTerms terms) (sym is) k) in
      subst (λ l. KnowsTerms terms (shown l)) (sym e) (placed (λ i t. t ≡ term_at terms i) wide p r v before)
