-- How many steps replacing takes.
use Rattle.std.proofs.Common.{◌≡◌, ℕ, zero, suc, ◌+◌, ◌<◌, ◌≤◌, List, [], ◌∷◌, Some, slice_get, map, length, sym, ap, subst, arith}
use Rattle.stt_core.specs.SimpleType.{SimpleType, base, arrow}
use Rattle.stt_core.specs.Lambda.{Lambda, bound, constant, lam, app, lambdas, applied}
use Rattle.normal_forms.specs.Normal.{Way, later, by_first, ways_of, replace, ways}

abbrev pub Price : Type 0
Price = Lambda → Lambda → ℕ

abbrev pub first_price : List Price → Price
first_price [] s u = 0
first_price (p ∷ ps) s u = p s u

-- of a term with r for variable k
abbrev pub price : List Way → List Price → ℕ → Lambda → Lambda → ℕ
price ws ps k r (bound j) = 1
price ws ps k r (constant c) = 1
price ws ps k r (lam a s) = suc (price ws ps (suc k) r s)
price ws ps k r (app s u) = suc (price ws ps k r s + price ws ps k r u + first_price (ways_of ps k s) (replace ws k r s) (replace ws k r u))

-- of a lambda applied to an argument
abbrev pub price_by : List Way → List Price → Price
price_by ws ps (lam a s) r = suc (suc (suc (price ws ps zero r s)))
price_by ws ps (bound k) r = 0
price_by ws ps (constant c) r = 0
price_by ws ps (app s u) r = 0

abbrev pub prices : SimpleType → List Price
prices (base n) = []
prices (arrow a b) = price_by (ways a) (prices a) ∷ prices b

-- of a term that is applied to one argument after the other
abbrev pub price_all : List Way → List Price → Lambda → List Lambda → ℕ
price_all ws ps t [] = 1
price_all ws ps t (u ∷ us) = suc (first_price ps t u + price_all (later ws) (later ps) (by_first ws t u) us)

module _ (ws : List Way) (ps : List Price) (r : Lambda) where
  pub price_pos : (k : ℕ) (t : Lambda) → 1 ≤ price ws ps k r t
  price_pos k (bound j) = omega arith
  price_pos k (constant c) = omega arith
  price_pos k (lam a s) = omega arith
  price_pos k (app s u) = omega arith

  price_grows : (k : ℕ) (t : Lambda) (us : List Lambda) → price ws ps k r t ≤ price ws ps k r (applied t us)
  price_grows k t [] = omega arith
  price_grows k t (u ∷ us) = omega (arith, price_grows k (app t u) us)

  -- an argument costs less than the term
  pub price_argument : (k : ℕ) (t : Lambda) (us : List Lambda) (i : ℕ) (u : Lambda) → slice_get us i ≡ Some u → price ws ps k r u < price ws ps k r (applied t us)
  price_argument k t [] i u h = cc
  price_argument k t (v ∷ us) zero u h =
      let e : v ≡ u = cc in
      omega (arith, price_grows k (app t v) us, ap (price ws ps k r) e)
  price_argument k t (v ∷ us) (suc i) u h = price_argument k (app t v) us i u h

  -- applying what the head becomes to what the arguments become is paid for
  pub price_arguments : (k : ℕ) (t : Lambda) (us : List Lambda) → price ws ps k r t + price_all (ways_of ws k t) (ways_of ps k t) (replace ws k r t) (map (replace ws k r) us) ≤ 1 + price ws ps k r (applied t us)
  price_arguments k t [] = omega arith
  price_arguments k t (u ∷ us) = omega (arith, price_arguments k (app t u) us)

  price-lambdas : (k : ℕ) (bs : List SimpleType) (t : Lambda) → price ws ps (k + length bs) r t ≤ price ws ps k r (lambdas bs t)
  price-lambdas k [] t = let e : k + 0 ≡ k = omega arith in subst (λ n. price ws ps n r t ≤ price ws ps k r t) (sym e) (omega arith)
  price-lambdas k (b ∷ bs) t =
      let e : suc k + length bs ≡ k + suc (length bs) = omega arith in
      subst (λ n. price ws ps n r t ≤ suc (price ws ps (suc k) r (lambdas bs t))) e (omega (arith, price-lambdas (suc k) bs t))

  -- the same of a term under binders
  pub argument_paid : (k n : ℕ) (bs : List SimpleType) (t : Lambda) (us : List Lambda) (whole : Lambda) → n ≡ k + length bs → lambdas bs (applied t us) ≡ whole → (i : ℕ) (u : Lambda) → slice_get us i ≡ Some u → price ws ps n r u < price ws ps k r whole
  argument_paid k n bs t us whole e w i u h =
      subst (λ x. price ws ps n r u < price ws ps k r x) w
      (subst (λ x. price ws ps x r u < price ws ps k r (lambdas bs (applied t us))) (sym e)
      (omega (arith, price_argument (k + length bs) t us i u h, price-lambdas k bs (applied t us))))

  pub arguments_paid : (k n : ℕ) (bs : List SimpleType) (t : Lambda) (us us' : List Lambda) (whole : Lambda) → n ≡ k + length bs → lambdas bs (applied t us) ≡ whole → us' ≡ map (replace ws n r) us → price_all (ways_of ws n t) (ways_of ps n t) (replace ws n r t) us' ≤ price ws ps k r whole
  arguments_paid k n bs t us us' whole e w m =
      subst (λ x. price_all (ways_of ws n t) (ways_of ps n t) (replace ws n r t) us' ≤ price ws ps k r x) w
      (subst (λ vs. price_all (ways_of ws n t) (ways_of ps n t) (replace ws n r t) vs ≤ price ws ps k r (lambdas bs (applied t us))) (sym m)
      (subst (λ x. price_all (ways_of ws x t) (ways_of ps x t) (replace ws x r t) (map (replace ws x r) us) ≤ price ws ps k r (lambdas bs (applied t us))) (sym e)
      (omega (arith, price_arguments (k + length bs) t us, price-lambdas k bs (applied t us), price_pos (k + length bs) t))))
