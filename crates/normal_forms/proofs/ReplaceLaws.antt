-- Replacing in a head with its arguments under binders.
use Rattle.std.proofs.Common.{◌≡◌, ℕ, zero, suc, ◌+◌, ◌<◌, ◌≤◌, List, [], ◌∷◌, ◌++◌, map, drop, length, refl, sym, ap, ap₂, ◌∙◌, arith}
use Rattle.stt_core.specs.SimpleType.{SimpleType, base, arrow}
use Rattle.stt_core.specs.Lambda.{Lambda, bound, constant, lam, app, lambdas, applied}
use Rattle.stt_core.specs.Typing.{Scope}
use Rattle.stt_core.specs.Canonical.{IsFrom, IsCanonical, IsNeutral}
use Rattle.stt_core.specs.Lift.{lift, lift_by}
use Rattle.normal_forms.specs.Normal.{Way, ways_at, ways_of, put, replace, ways}
use Rattle.normal_forms.specs.Ready.{ArgumentsFit}
use Rattle.normal_forms.specs.Internal.Applying.{apply_ways, body_under}
use Rattle.normal_forms.proofs.CanonicalLaws.{keeps, canonical-lift, canonical-replace}

pub apply_ways_none : (t : Lambda) (us : List Lambda) → apply_ways [] t us ≡ applied t us
apply_ways_none t [] = refl
apply_ways_none t (u ∷ us) = apply_ways_none (app t u) us

pub replace-applied : (ws : List Way) (k : ℕ) (r t : Lambda) (us : List Lambda) → replace ws k r (applied t us) ≡ apply_ways (ways_of ws k t) (replace ws k r t) (map (replace ws k r) us)
replace-applied ws k r t [] = refl
replace-applied ws k r t (u ∷ us) = replace-applied ws k r (app t u) us

replace-lambdas : (ws : List Way) (k : ℕ) (r : Lambda) (bs : List SimpleType) (t : Lambda) → replace ws k r (lambdas bs t) ≡ lambdas bs (replace ws (k + length bs) r t)
replace-lambdas ws k r [] t = let e : k ≡ k + 0 = omega arith in ap (λ n. replace ws n r t) e
replace-lambdas ws k r (b ∷ bs) t =
    let e : suc k + length bs ≡ k + suc (length bs) = omega arith in
    ap (lam b) (replace-lambdas ws (suc k) r bs t ∙ ap (λ n. lambdas bs (replace ws n r t)) e)

-- what the parts of a term give
pub replaced_whole : (ws : List Way) (k n : ℕ) (r : Lambda) (bs bs' : List SimpleType) (t : Lambda) (us us' vs : List Lambda) (body whole : Lambda) → n ≡ k + length bs → bs' ≡ bs → us' ≡ map (replace ws n r) vs → vs ≡ us → body ≡ apply_ways (ways_of ws n t) (replace ws n r t) us' → lambdas bs (applied t us) ≡ whole → lambdas bs' body ≡ replace ws k r whole
replaced_whole ws k n r bs bs' t us us' vs body whole e b ar v p w =
    ap₂ lambdas b (p ∙ ap (apply_ways (ways_of ws n t) (replace ws n r t)) (ar ∙ ap (map (replace ws n r)) v))
    ∙ ap (lambdas bs) (sym (replace-applied ws n r t us))
    ∙ ap (λ x. lambdas bs (replace ws x r (applied t us))) e
    ∙ sym (replace-lambdas ws k r bs (applied t us))
    ∙ ap (replace ws k r) w

pub lambdas-append : (as' bs : List SimpleType) (t : Lambda) → lambdas (as' ++ bs) t ≡ lambdas as' (lambdas bs t)
lambdas-append [] bs t = refl
lambdas-append (a ∷ as') bs t = ap (lam a) (lambdas-append as' bs t)

-- the variable itself
pub put_same : (k : ℕ) (r : Lambda) → put k r k ≡ lift_by k zero r
put_same zero r = refl
put_same (suc k) r = ap (lift zero) (put_same k r)

pub ways_same : {W : Type 0} (k : ℕ) (ws : List W) → ways_at k k ws ≡ ws
ways_same zero ws = refl
ways_same (suc k) ws = ways_same k ws

pub put_below : (k : ℕ) (r : Lambda) (j : ℕ) → j < k → put k r j ≡ bound j
put_below zero r j h = absurd (omega arith)
put_below (suc k) r zero h = refl
put_below (suc k) r (suc j) h = ap (lift zero) (put_below k r j (omega arith))

pub ways_below : {W : Type 0} (k j : ℕ) (ws : List W) → j < k → ways_at k j ws ≡ []
ways_below zero j ws h = absurd (omega arith)
ways_below (suc k) zero ws h = refl
ways_below (suc k) (suc j) ws h = ways_below k j ws (omega arith)

pub put_above : (k : ℕ) (r : Lambda) (j : ℕ) → k ≤ j → put k r (suc j) ≡ bound j
put_above zero r j h = refl
put_above (suc k) r zero h = absurd (omega arith)
put_above (suc k) r (suc j) h = ap (lift zero) (put_above k r j (omega arith))

pub ways_above : {W : Type 0} (k j : ℕ) (ws : List W) → k ≤ j → ways_at k (suc j) ws ≡ []
ways_above zero j ws h = refl
ways_above (suc k) zero ws h = absurd (omega arith)
ways_above (suc k) (suc j) ws h = ways_above k j ws (omega arith)

-- no function is at the root
abbrev pub NotFunction : Lambda → Type 0
NotFunction (bound k) = Unit {0}
NotFunction (constant c) = Unit {0}
NotFunction (lam a s) = ⊥
NotFunction (app s u) = Unit {0}

not_function_applied : (t : Lambda) (us : List Lambda) → NotFunction t → NotFunction (applied t us)
not_function_applied t [] o = o
not_function_applied t (u ∷ us) o = not_function_applied (app t u) us tt

body_not_function : (n : ℕ) (t : Lambda) → NotFunction t → body_under n t ≡ t
body_not_function zero t o = refl
body_not_function (suc n) (bound k) o = refl
body_not_function (suc n) (constant c) o = refl
body_not_function (suc n) (lam a s) o = absurd o
body_not_function (suc n) (app s u) o = refl

body-lambdas : (n : ℕ) (bs : List SimpleType) (t : Lambda) → NotFunction t → body_under n (lambdas bs t) ≡ lambdas (drop n bs) t
body-lambdas zero bs t o = refl
body-lambdas (suc n) [] t o = body_not_function (suc n) t o
body-lambdas (suc n) (b ∷ bs) t o = body-lambdas n bs t o

-- the parts of a term without its first binders
pub body_view : (n : ℕ) (bs : List SimpleType) (h : Lambda) (us : List Lambda) (whole : Lambda) → NotFunction h → lambdas bs (applied h us) ≡ whole → lambdas (drop n bs) (applied h us) ≡ body_under n whole
body_view n bs h us whole o e = sym (body-lambdas n bs (applied h us) (not_function_applied h us o)) ∙ ap (body_under n) e

module _ (scope : Scope) where
  pub neutral_of : (ctx : List SimpleType) (b : SimpleType) (t : Lambda) (us : List Lambda) → NotFunction t → IsCanonical scope ctx b (applied t us) → IsNeutral scope ctx b (applied t us)
  neutral_of ctx b (bound k) [] o h = h.1
  neutral_of ctx b (constant c) [] o h = h.1
  neutral_of ctx b (lam a s) [] o h = absurd o
  neutral_of ctx b (app s u) [] o h = h.1
  neutral_of ctx b t (u ∷ us) o h = neutral_of ctx b (app t u) us tt h

  -- the type of a head, and its arguments
  pub record Spine (ctx : List SimpleType) (t : Lambda) (us : List Lambda) : Type 0 where
    pub head_type : SimpleType
    pub head_in : IsNeutral scope ctx head_type t
    pub arguments : ArgumentsFit scope ctx head_type us

  spine_of : (ctx : List SimpleType) (b : SimpleType) (t : Lambda) (us : List Lambda) → IsNeutral scope ctx b (applied t us) → Spine ctx t us
  spine_of ctx b t [] h = record { head_type = b; head_in = h; arguments = tt }
  spine_of ctx b t (u ∷ us) h =
      let s = spine_of ctx b (app t u) us h in
      record { head_type = arrow s.head_in.0 s.head_type; head_in = s.head_in.1; arguments = (s.head_in.2, s.arguments) }

  -- the context under binders
  abbrev pub under : List SimpleType → List SimpleType → List SimpleType
  under [] ctx = ctx
  under (b ∷ bs) ctx = under bs (b ∷ ctx)

  pub under_front : (bs pre ctx : List SimpleType) → under bs (pre ++ ctx) ≡ under bs pre ++ ctx
  under_front [] pre ctx = refl
  under_front (b ∷ bs) pre ctx = under_front bs (b ∷ pre) ctx

  pub length-under : (bs ctx : List SimpleType) → length (under bs ctx) ≡ length ctx + length bs
  length-under [] ctx = omega arith
  length-under (b ∷ bs) ctx = omega (arith, length-under bs (b ∷ ctx))

  from_under : (c b : SimpleType) (P : SimpleType → Type 0) → IsFrom c b P → (d : SimpleType) × P d
  from_under c (base n) P h = absurd h
  from_under c (arrow e d) P h = (d, h.1)

  pub spine_under : (bs ctx : List SimpleType) (b : SimpleType) (t : Lambda) (us : List Lambda) → NotFunction t → IsCanonical scope ctx b (lambdas bs (applied t us)) → Spine (under bs ctx) t us
  spine_under [] ctx b t us o h = spine_of ctx b t us (neutral_of ctx b t us o h)
  spine_under (c ∷ bs) ctx b t us o h =
      let d = from_under c b (λ x. IsCanonical scope (c ∷ ctx) x (lambdas bs (applied t us))) h.1 in
      spine_under bs (c ∷ ctx) d.0 t us o d.1

-- what replaces a variable takes what its arguments become
pub map_fits : (scope : Scope) (ctx : List SimpleType) (a : SimpleType) (r : Lambda) → IsCanonical scope ctx a r → (front : List SimpleType) (c : SimpleType) (us : List Lambda) → ArgumentsFit scope (front ++ a ∷ ctx) c us → ArgumentsFit scope (front ++ ctx) c (map (replace (ways a) (length front) r) us)
map_fits scope ctx a r hr front c [] h = tt
map_fits scope ctx a r hr front (base n) (u ∷ us) h = absurd h
map_fits scope ctx a r hr front (arrow c d) (u ∷ us) h =
    (canonical-replace scope ctx a r (ways a) hr (keeps scope a) front c u h.0, map_fits scope ctx a r hr front d us h.1)

pub lift_front : (scope : Scope) (front ctx : List SimpleType) (a : SimpleType) (r : Lambda) → IsCanonical scope ctx a r → IsCanonical scope (front ++ ctx) a (lift_by (length front) zero r)
lift_front scope [] ctx a r h = h
lift_front scope (c ∷ front) ctx a r h = canonical-lift scope [] c (front ++ ctx) a (lift_by (length front) zero r) (lift_front scope front ctx a r h)
