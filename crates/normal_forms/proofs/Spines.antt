-- Lifting a head with its arguments under binders.
use Rattle.std.proofs.Common.{◌≡◌, ℕ, zero, suc, ◌+◌, ◌<◌, ◌≤◌, List, [], ◌∷◌, map, length, refl, sym, ap, ap₂, ◌∙◌, add-suc, add-zero, arith}
use Rattle.stt_core.specs.SimpleType.{SimpleType}
use Rattle.stt_core.specs.Lambda.{Constant, Lambda, bound, constant, lam, app, lambdas, applied}
use Rattle.stt_core.specs.Lift.{lift, lift_by}
use Rattle.stt_core.proofs.LiftLaws.{raised_below, raised_above}

lift-lambdas : (k : ℕ) (as' : List SimpleType) (t : Lambda) → lift k (lambdas as' t) ≡ lambdas as' (lift (k + length as') t)
lift-lambdas k [] t = ap (λ n. lift n t) (sym (add-zero k))
lift-lambdas k (a ∷ as') t =
    let e : suc k + length as' ≡ k + suc (length as') = omega arith in
    ap (lam a) (lift-lambdas (suc k) as' t ∙ ap (λ n. lambdas as' (lift n t)) e)

pub lift-applied : (k : ℕ) (t : Lambda) (us : List Lambda) → lift k (applied t us) ≡ applied (lift k t) (map (lift k) us)
lift-applied k t [] = refl
lift-applied k t (u ∷ us) = lift-applied k (app t u) us

map-map : (f g : Lambda → Lambda) (us : List Lambda) → map f (map g us) ≡ map (λ u. f (g u)) us
map-map f g [] = refl
map-map f g (u ∷ us) = ap (λ vs. f (g u) ∷ vs) (map-map f g us)

map-same : (us : List Lambda) → us ≡ map (λ u. u) us
map-same [] = refl
map-same (u ∷ us) = ap (λ vs. u ∷ vs) (map-same us)

-- a head with its arguments under binders, lifted
pub lift_by-spine : (n k : ℕ) (as' : List SimpleType) (t : Lambda) (us : List Lambda) → lift_by n k (lambdas as' (applied t us)) ≡ lambdas as' (applied (lift_by n (k + length as') t) (map (lift_by n (k + length as')) us))
lift_by-spine zero k as' t us = ap (λ vs. lambdas as' (applied t vs)) (map-same us)
lift_by-spine (suc n) k as' t us =
    let j : ℕ = k + length as' in
    ap (lift k) (lift_by-spine n k as' t us)
    ∙ lift-lambdas k as' (applied (lift_by n j t) (map (lift_by n j) us))
    ∙ ap (lambdas as') (lift-applied j (lift_by n j t) (map (lift_by n j) us) ∙ ap (applied (lift j (lift_by n j t))) (map-map (lift j) (lift_by n j) us))

pub lift_by_below : (n k j : ℕ) → j < k → lift_by n k (bound j) ≡ bound j
lift_by_below zero k j h = refl
lift_by_below (suc n) k j h = ap (lift k) (lift_by_below n k j h) ∙ ap bound (raised_below k j h)

pub lift_by_above : (n k j : ℕ) → k ≤ j → lift_by n k (bound j) ≡ bound (j + n)
lift_by_above zero k j h = ap bound (sym (add-zero j))
lift_by_above (suc n) k j h = ap (lift k) (lift_by_above n k j h) ∙ ap bound (raised_above k (j + n) (omega arith) ∙ sym (add-suc j n))

pub lift_by_constant : (n k : ℕ) (c : Constant) → lift_by n k (constant c) ≡ constant c
lift_by_constant zero k c = refl
lift_by_constant (suc n) k c = ap (lift k) (lift_by_constant n k c)

-- what the parts of a term give when they are lifted
pub lifted_whole : (by from inner : ℕ) (bs bs' : List SimpleType) (h h' : Lambda) (us us' vs : List Lambda) (whole : Lambda) → inner ≡ from + length bs → bs' ≡ bs → h' ≡ lift_by by inner h → us' ≡ map (lift_by by inner) vs → vs ≡ us → lambdas bs (applied h us) ≡ whole → lambdas bs' (applied h' us') ≡ lift_by by from whole
lifted_whole by from inner bs bs' h h' us us' vs whole e b hd ar v w =
    ap₂ lambdas b (ap₂ applied hd (ar ∙ ap (map (lift_by by inner)) v))
    ∙ ap (λ n. lambdas bs (applied (lift_by by n h) (map (lift_by by n) us))) e
    ∙ sym (lift_by-spine by from bs h us)
    ∙ ap (lift_by by from) w
