-- Lifting and replacing in either order.
use Rattle.std.proofs.Common.{◌≡◌, ℕ, zero, suc, List, [], ◌∷◌, ◌++◌, length, refl, sym, ap, ap₂, ◌∙◌}
use Rattle.stt_core.specs.SimpleType.{SimpleType, base, arrow}
use Rattle.stt_core.specs.Lambda.{Lambda, bound, constant, lam, app}
use Rattle.stt_core.specs.Lift.{raised, lift}
use Rattle.normal_forms.specs.Normal.{Way, later, by_first, ways_at, ways_of, put, replace, apply_by, ways, eta}

raised-raised : (pre mid : List SimpleType) (j : ℕ) → raised (suc (length (pre ++ mid))) (raised (length pre) j) ≡ raised (length pre) (raised (length (pre ++ mid)) j)
raised-raised [] mid j = refl
raised-raised (b ∷ pre) mid zero = refl
raised-raised (b ∷ pre) mid (suc j) = ap suc (raised-raised pre mid j)

pub lift-lift : (pre mid : List SimpleType) (t : Lambda) → lift (suc (length (pre ++ mid))) (lift (length pre) t) ≡ lift (length pre) (lift (length (pre ++ mid)) t)
lift-lift pre mid (bound j) = ap bound (raised-raised pre mid j)
lift-lift pre mid (constant c) = refl
lift-lift pre mid (lam a s) = ap (lam a) (lift-lift (a ∷ pre) mid s)
lift-lift pre mid (app s u) = ap₂ app (lift-lift pre mid s) (lift-lift pre mid u)

-- each way gives the lifted term at lifted terms
abbrev pub Lifts : List Way → Type 0
Lifts [] = Unit {0}
Lifts (w ∷ ws) = ((mid : List SimpleType) (f u : Lambda) → lift (length mid) (w f u) ≡ w (lift (length mid) f) (lift (length mid) u)) × Lifts ws

lifts_later : (ws : List Way) → Lifts ws → Lifts (later ws)
lifts_later [] h = tt
lifts_later (w ∷ ws) h = h.1

lifts_first : (ws : List Way) (mid : List SimpleType) (f u : Lambda) → Lifts ws → lift (length mid) (by_first ws f u) ≡ by_first ws (lift (length mid) f) (lift (length mid) u)
lifts_first [] mid f u h = refl
lifts_first (w ∷ ws) mid f u h = h.0 mid f u

lifts_at : (k j : ℕ) (ws : List Way) → Lifts ws → Lifts (ways_at k j ws)
lifts_at zero zero ws h = h
lifts_at zero (suc j) ws h = tt
lifts_at (suc k) zero ws h = tt
lifts_at (suc k) (suc j) ws h = lifts_at k j ws h

lifts_of : (k : ℕ) (ws : List Way) (t : Lambda) → Lifts ws → Lifts (ways_of ws k t)
lifts_of k ws (bound j) h = lifts_at k j ws h
lifts_of k ws (constant c) h = tt
lifts_of k ws (lam a s) h = tt
lifts_of k ws (app s u) h = lifts_later (ways_of ws k s) (lifts_of k ws s h)

-- A BINDER OUTSIDE THE VARIABLE

put_outside : (pre mid : List SimpleType) (r : Lambda) (j : ℕ) → lift (length (pre ++ mid)) (put (length pre) r j) ≡ put (length pre) (lift (length mid) r) (raised (suc (length (pre ++ mid))) j)
put_outside [] mid r zero = refl
put_outside [] mid r (suc j) = refl
put_outside (b ∷ pre) mid r zero = refl
put_outside (b ∷ pre) mid r (suc j) = lift-lift [] (pre ++ mid) (put (length pre) r j) ∙ ap (lift zero) (put_outside pre mid r j)

at_outside : {W : Type 0} (pre mid : List SimpleType) (ws : List W) (j : ℕ) → ways_at (length pre) j ws ≡ ways_at (length pre) (raised (suc (length (pre ++ mid))) j) ws
at_outside [] mid ws zero = refl
at_outside [] mid ws (suc j) = refl
at_outside (b ∷ pre) mid ws zero = refl
at_outside (b ∷ pre) mid ws (suc j) = at_outside pre mid ws j

of_outside : {W : Type 0} (pre mid : List SimpleType) (ws : List W) (t : Lambda) → ways_of ws (length pre) t ≡ ways_of ws (length pre) (lift (suc (length (pre ++ mid))) t)
of_outside pre mid ws (bound j) = at_outside pre mid ws j
of_outside pre mid ws (constant c) = refl
of_outside pre mid ws (lam a s) = refl
of_outside pre mid ws (app s u) = ap later (of_outside pre mid ws s)

pub replace_outside : (ws : List Way) → Lifts ws → (pre mid : List SimpleType) (r t : Lambda) → lift (length (pre ++ mid)) (replace ws (length pre) r t) ≡ replace ws (length pre) (lift (length mid) r) (lift (suc (length (pre ++ mid))) t)
replace_outside ws h pre mid r (bound j) = put_outside pre mid r j
replace_outside ws h pre mid r (constant c) = refl
replace_outside ws h pre mid r (lam a s) = ap (lam a) (replace_outside ws h (a ∷ pre) mid r s)
replace_outside ws h pre mid r (app s u) =
    lifts_first (ways_of ws (length pre) s) (pre ++ mid) (replace ws (length pre) r s) (replace ws (length pre) r u) (lifts_of (length pre) ws s h)
    ∙ ap₂ (by_first (ways_of ws (length pre) s)) (replace_outside ws h pre mid r s) (replace_outside ws h pre mid r u)
    ∙ ap (λ vs. by_first vs (replace ws (length pre) (lift (length mid) r) (lift (suc (length (pre ++ mid))) s)) (replace ws (length pre) (lift (length mid) r) (lift (suc (length (pre ++ mid))) u))) (of_outside pre mid ws s)

apply_by_lifts : (ws : List Way) → Lifts ws → (mid : List SimpleType) (f u : Lambda) → lift (length mid) (apply_by ws f u) ≡ apply_by ws (lift (length mid) f) (lift (length mid) u)
apply_by_lifts ws h mid (bound k) u = refl
apply_by_lifts ws h mid (constant c) u = refl
apply_by_lifts ws h mid (app s v) u = refl
apply_by_lifts ws h mid (lam a s) u = replace_outside ws h [] mid u s

pub lifts : (a : SimpleType) → Lifts (ways a)
lifts (base n) = tt
lifts (arrow a b) = (λ mid f u. apply_by_lifts (ways a) (lifts a) mid f u, lifts b)

-- A BINDER INSIDE

put_inside : (front back : List SimpleType) (r : Lambda) (j : ℕ) → put (suc (length (front ++ back))) r (raised (length front) j) ≡ lift (length front) (put (length (front ++ back)) r j)
put_inside [] back r j = refl
put_inside (b ∷ front) back r zero = refl
put_inside (b ∷ front) back r (suc j) = ap (lift zero) (put_inside front back r j) ∙ sym (lift-lift [] front (put (length (front ++ back)) r j))

at_inside : {W : Type 0} (front back : List SimpleType) (ws : List W) (j : ℕ) → ways_at (suc (length (front ++ back))) (raised (length front) j) ws ≡ ways_at (length (front ++ back)) j ws
at_inside [] back ws j = refl
at_inside (b ∷ front) back ws zero = refl
at_inside (b ∷ front) back ws (suc j) = at_inside front back ws j

pub of_inside : {W : Type 0} (front back : List SimpleType) (ws : List W) (t : Lambda) → ways_of ws (suc (length (front ++ back))) (lift (length front) t) ≡ ways_of ws (length (front ++ back)) t
of_inside front back ws (bound j) = at_inside front back ws j
of_inside front back ws (constant c) = refl
of_inside front back ws (lam a s) = refl
of_inside front back ws (app s u) = ap later (of_inside front back ws s)

pub replace_inside : (ws : List Way) → Lifts ws → (front back : List SimpleType) (r t : Lambda) → replace ws (suc (length (front ++ back))) r (lift (length front) t) ≡ lift (length front) (replace ws (length (front ++ back)) r t)
replace_inside ws h front back r (bound j) = put_inside front back r j
replace_inside ws h front back r (constant c) = refl
replace_inside ws h front back r (lam a s) = ap (lam a) (replace_inside ws h (a ∷ front) back r s)
replace_inside ws h front back r (app s u) =
    ap (λ vs. by_first vs (replace ws (suc (length (front ++ back))) r (lift (length front) s)) (replace ws (suc (length (front ++ back))) r (lift (length front) u))) (of_inside front back ws s)
    ∙ ap₂ (by_first (ways_of ws (length (front ++ back)) s)) (replace_inside ws h front back r s) (replace_inside ws h front back r u)
    ∙ sym (lifts_first (ways_of ws (length (front ++ back)) s) front (replace ws (length (front ++ back)) r s) (replace ws (length (front ++ back)) r u) (lifts_of (length (front ++ back)) ws s h))

-- THE VARIABLE THAT IS NOT THERE

put_away : (pre : List SimpleType) (r : Lambda) (j : ℕ) → put (length pre) r (raised (length pre) j) ≡ bound j
put_away [] r j = refl
put_away (b ∷ pre) r zero = refl
put_away (b ∷ pre) r (suc j) = ap (lift zero) (put_away pre r j)

at_away : {W : Type 0} (pre : List SimpleType) (ws : List W) (j : ℕ) → ways_at (length pre) (raised (length pre) j) ws ≡ []
at_away [] ws j = refl
at_away (b ∷ pre) ws zero = refl
at_away (b ∷ pre) ws (suc j) = at_away pre ws j

pub of_away : {W : Type 0} (pre : List SimpleType) (ws : List W) (t : Lambda) → ways_of ws (length pre) (lift (length pre) t) ≡ []
of_away pre ws (bound j) = at_away pre ws j
of_away pre ws (constant c) = refl
of_away pre ws (lam a s) = refl
of_away pre ws (app s u) = ap later (of_away pre ws s)

pub replace_away : (ws : List Way) (pre : List SimpleType) (r t : Lambda) → replace ws (length pre) r (lift (length pre) t) ≡ t
replace_away ws pre r (bound j) = put_away pre r j
replace_away ws pre r (constant c) = refl
replace_away ws pre r (lam a s) = ap (lam a) (replace_away ws (a ∷ pre) r s)
replace_away ws pre r (app s u) =
    ap (λ vs. by_first vs (replace ws (length pre) r (lift (length pre) s)) (replace ws (length pre) r (lift (length pre) u))) (of_away pre ws s)
    ∙ ap₂ app (replace_away ws pre r s) (replace_away ws pre r u)

-- replacing under an eta-long form whose head is another one
pub replace-eta : (ws : List Way) → Lifts ws → (pre : List SimpleType) (r : Lambda) (a : SimpleType) (t : Lambda) → ways_of ws (length pre) t ≡ [] → replace ws (length pre) r (eta a t) ≡ eta a (replace ws (length pre) r t)
replace-eta ws h pre r (base n) t e = refl
replace-eta ws h pre r (arrow a b) t e =
    let e' : ways_of ws (suc (length pre)) (lift zero t) ≡ [] = of_inside [] pre ws t ∙ e in
    ap (lam a)
    (replace-eta ws h (a ∷ pre) r b (app (lift zero t) (eta a (bound zero))) (ap later e')
    ∙ ap (eta b)
    (ap (λ vs. by_first vs (replace ws (suc (length pre)) r (lift zero t)) (replace ws (suc (length pre)) r (eta a (bound zero)))) e'
    ∙ ap₂ app (replace_inside ws h [] pre r t) (replace-eta ws h (a ∷ pre) r a (bound zero) refl)))
