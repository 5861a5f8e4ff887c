-- What the calls among the functions that apply owe: that they may be made, and that they cost less.
use Rattle.std.proofs.Common.{◌≡◌, ℕ, zero, suc, ◌+◌, ◌<◌, ◌≤◌, List, [], ◌∷◌, ◌++◌, Some, slice_get, map, drop, length, refl, sym, ap, ap₂, subst, subst₂, ◌∙◌, arith, length-drop}
use Rattle.stt_core.specs.SimpleType.{SimpleType, base, arrow}
use Rattle.stt_core.specs.Lambda.{Constant, Lambda, bound, constant, lam, app, lambdas, applied}
use Rattle.stt_core.specs.Typing.{Scope}
use Rattle.stt_core.specs.View.{the_head}
use Rattle.stt_core.specs.declared.nf.Head.{Head}
use Rattle.stt_core.specs.declared.nf.Head.TheVariants.{Bound, Name, Wit, False, Not, Imp, All, Eq, Choice, Desc}
use Rattle.stt_core.specs.Canonical.{IsCanonical, IsNeutral}
use Rattle.stt_core.proofs.ListLaws.{drop_got}
use Rattle.stt_core.specs.Lift.{lift_by}
use Rattle.normal_forms.specs.Normal.{Way, ways_of, put, replace, apply_by, ways}
use Rattle.normal_forms.specs.Ready.{ArgumentsFit, Replaces, AppliesAll, HeadReplaces}
use Rattle.normal_forms.specs.Internal.Applying.{apply_ways, body_under}
use Rattle.normal_forms.proofs.CanonicalLaws.{keeps}
use Rattle.normal_forms.proofs.Prices.{price, price_by, price_all, prices, argument_paid, arguments_paid}
use Rattle.normal_forms.proofs.ReplaceLaws.{NotFunction, Spine, spine_under, under, under_front, length-under, map_fits, lift_front, apply_ways_none, put_same, ways_same, put_below, ways_below, put_above, ways_above}

-- THE FIRST ARGUMENT

-- a canonical function stands under a binder
function_body : (scope : Scope) (ctx : List SimpleType) (x y : SimpleType) (f : Lambda) → IsCanonical scope ctx (arrow x y) f → lam x (body_under 1 f) ≡ f
function_body scope ctx x y (bound k) h = absurd h.0
function_body scope ctx x y (constant c) h = absurd h.0
function_body scope ctx x y (app s u) h = absurd h.0
function_body scope ctx x y (lam c s) h = ap (λ a. lam a s) h.1.0

pub function_replaces : (scope : Scope) (ctx : List SimpleType) (x y : SimpleType) (f u : Lambda) → IsCanonical scope ctx (arrow x y) f → IsCanonical scope ctx x u → Replaces x 0 u (body_under 1 f)
function_replaces scope ctx x y f u h k =
    let whole = subst (IsCanonical scope ctx (arrow x y)) (sym (function_body scope ctx x y f h)) h in
    record { scope = scope; ctx = ctx; front = []; result = y; length_is = refl; r_in = k; t_in = whole.1.1 }

pub function_applied : (scope : Scope) (ctx : List SimpleType) (x y : SimpleType) (f u : Lambda) → IsCanonical scope ctx (arrow x y) f → replace (ways x) 0 u (body_under 1 f) ≡ apply_by (ways x) f u
function_applied scope ctx x y f u h = ap (λ t. apply_by (ways x) t u) (function_body scope ctx x y f h)

function_priced : (scope : Scope) (ctx : List SimpleType) (x y : SimpleType) (f u : Lambda) → IsCanonical scope ctx (arrow x y) f → suc (suc (suc (price (ways x) (prices x) 0 u (body_under 1 f)))) ≡ price_by (ways x) (prices x) f u
function_priced scope ctx x y f u h =
    ap (λ t. price_by (ways x) (prices x) t u) (function_body scope ctx x y f h)

one_at : (x y : SimpleType) (f u : Lambda) (us : List Lambda) → AppliesAll (arrow x y) f (u ∷ us) → Replaces x 0 u (body_under 1 f) × (2 + price (ways x) (prices x) 0 u (body_under 1 f) < price_all (ways (arrow x y)) (prices (arrow x y)) f (u ∷ us))
one_at x y f u us h =
    (function_replaces h.scope h.ctx x y f u h.t_in h.us_in.0, omega (arith, function_priced h.scope h.ctx x y f u h.t_in))

pub one_ready : (a x y : SimpleType) (f u : Lambda) (us : List Lambda) (i : ℕ) → AppliesAll a f (drop i us) → a ≡ arrow x y → slice_get us i ≡ Some u → Replaces x 0 u (body_under 1 f) × (2 + price (ways x) (prices x) 0 u (body_under 1 f) < price_all (ways a) (prices a) f (drop i us))
one_ready a x y f u us i h e g =
    let l = drop_got us i u g in
    let h' = subst₂ (λ b vs. AppliesAll b f vs) e l h in
    subst₂ (λ b vs. Replaces x 0 u (body_under 1 f) × (2 + price (ways x) (prices x) 0 u (body_under 1 f) < price_all (ways b) (prices b) f vs)) (sym e) (sym l) (one_at x y f u (drop (i + 1) us) h')

-- THE OTHER ARGUMENTS

all_at : (x y : SimpleType) (f u : Lambda) (us : List Lambda) → AppliesAll (arrow x y) f (u ∷ us) → AppliesAll y (apply_by (ways x) f u) us × (price_all (ways y) (prices y) (apply_by (ways x) f u) us < price_all (ways (arrow x y)) (prices (arrow x y)) f (u ∷ us))
all_at x y f u us h =
    (record { scope = h.scope; ctx = h.ctx; t_in = (keeps h.scope (arrow x y)).0 h.ctx f u h.t_in h.us_in.0; us_in = h.us_in.1 }, omega arith)

-- what the first argument gives
pub one_returns : (a x y : SimpleType) (f u g : Lambda) (us : List Lambda) (i : ℕ) → AppliesAll a f (drop i us) → a ≡ arrow x y → slice_get us i ≡ Some u → g ≡ replace (ways x) 0 u (body_under 1 f) → g ≡ apply_by (ways x) f u
one_returns a x y f u g us i h e k q =
    let h' = subst₂ (λ b vs. AppliesAll b f vs) e (drop_got us i u k) h in
    q ∙ function_applied h'.scope h'.ctx x y f u h'.t_in

pub all_ready : (a x y : SimpleType) (f u g : Lambda) (us : List Lambda) (i : ℕ) → AppliesAll a f (drop i us) → a ≡ arrow x y → slice_get us i ≡ Some u → g ≡ apply_by (ways x) f u → AppliesAll y g (drop (i + 1) us) × (price_all (ways y) (prices y) g (drop (i + 1) us) < price_all (ways a) (prices a) f (drop i us))
all_ready a x y f u g us i h e k q =
    let l = drop_got us i u k in
    let h' = subst₂ (λ b vs. AppliesAll b f vs) e l h in
    let r = all_at x y f u (drop (i + 1) us) h' in
    let r' = subst₂ (λ b vs. AppliesAll y (apply_by (ways x) f u) (drop (i + 1) us) × (price_all (ways y) (prices y) (apply_by (ways x) f u) (drop (i + 1) us) < price_all (ways b) (prices b) f vs)) (sym e) (sym l) r in
    subst (λ v. AppliesAll y v (drop (i + 1) us) × (price_all (ways y) (prices y) v (drop (i + 1) us) < price_all (ways a) (prices a) f (drop i us))) (sym q) r'

pub all_returns : (a x y : SimpleType) (f u g t : Lambda) (us : List Lambda) (i : ℕ) → a ≡ arrow x y → slice_get us i ≡ Some u → g ≡ apply_by (ways x) f u → t ≡ apply_ways (ways y) g (drop (i + 1) us) → t ≡ apply_ways (ways a) f (drop i us)
all_returns a x y f u g t us i e k q r =
    r ∙ ap (λ v. apply_ways (ways y) v (drop (i + 1) us)) q ∙ ap₂ (λ b vs. apply_ways (ways b) f vs) (sym e) (sym (drop_got us i u k))

-- a term of a base type takes no argument
pub no_argument : (a : SimpleType) (n : ℕ) (f : Lambda) (us : List Lambda) (i : ℕ) → AppliesAll a f (drop i us) → a ≡ base n → i < length us → ⊥
no_argument a n f us i h e l = go (drop i us) (subst (λ b. AppliesAll b f (drop i us)) e h) (omega (arith, length-drop i us))
  where
    go : (vs : List Lambda) → AppliesAll (base n) f vs → 0 < length vs → ⊥
    go [] h l = omega arith
    go (v ∷ vs) h l = h.us_in

-- THE HEAD

pub head_ready : (a : SimpleType) (k : ℕ) (r h f : Lambda) (us : List Lambda) → HeadReplaces a k r h us → h ≡ bound k → f ≡ lift_by k 0 r → AppliesAll a f us × (price_all (ways a) (prices a) f us < 1 + price_all (ways_of (ways a) k h) (ways_of (prices a) k h) (replace (ways a) k r h) us)
head_ready a k r h f us c e q =
    let here = subst (λ n. IsCanonical c.scope (c.front ++ c.ctx) a (lift_by n zero r)) c.length_is (lift_front c.scope c.front c.ctx a r c.r_in) in
    let same : price_all (ways a) (prices a) f us ≡ price_all (ways_of (ways a) k h) (ways_of (prices a) k h) (replace (ways a) k r h) us =
    ap (λ t. price_all (ways a) (prices a) t us) (q ∙ sym (put_same k r))
    ∙ ap₂ (λ ws ps. price_all ws ps (put k r k) us) (sym (ways_same k (ways a))) (sym (ways_same k (prices a)))
    ∙ ap (λ t. price_all (ways_of (ways a) k t) (ways_of (prices a) k t) (replace (ways a) k r t) us) (sym e) in
    (record { scope = c.scope; ctx = c.front ++ c.ctx; t_in = subst (λ t. IsCanonical c.scope (c.front ++ c.ctx) a t) (sym q) here; us_in = c.us_in e }, omega (arith, same))

pub head_returns : (ws : List Way) (k : ℕ) (r h f t : Lambda) (us : List Lambda) → h ≡ bound k → f ≡ lift_by k 0 r → t ≡ apply_ways ws f us → t ≡ apply_ways (ways_of ws k h) (replace ws k r h) us
head_returns ws k r h f t us e q p =
    p
    ∙ ap (λ v. apply_ways ws v us) (q ∙ sym (put_same k r))
    ∙ ap (λ vs. apply_ways vs (put k r k) us) (sym (ways_same k ws))
    ∙ ap (λ v. apply_ways (ways_of ws k v) (replace ws k r v) us) (sym e)

pub below_returns : (ws : List Way) (k j : ℕ) (r h : Lambda) (us : List Lambda) → h ≡ bound j → j < k → applied (bound j) us ≡ apply_ways (ways_of ws k h) (replace ws k r h) us
below_returns ws k j r h us e l =
    sym (apply_ways_none (bound j) us)
    ∙ ap₂ (λ vs v. apply_ways vs v us) (sym (ways_below k j ws l)) (sym (put_below k r j l))
    ∙ ap (λ v. apply_ways (ways_of ws k v) (replace ws k r v) us) (sym e)

pub above_returns : (ws : List Way) (k j i : ℕ) (r h : Lambda) (us : List Lambda) → h ≡ bound j → j ≡ suc i → k ≤ i → applied (bound i) us ≡ apply_ways (ways_of ws k h) (replace ws k r h) us
above_returns ws k j i r h us e s l =
    sym (apply_ways_none (bound i) us)
    ∙ ap₂ (λ vs v. apply_ways vs v us) (sym (ways_above k i ws l)) (sym (put_above k r i l))
    ∙ ap (λ v. apply_ways (ways_of ws k v) (replace ws k r v) us) (ap bound (sym s) ∙ sym e)

pub constant_returns : (ws : List Way) (k : ℕ) (r h h' : Lambda) (c : Constant) (us : List Lambda) → h ≡ constant c → h' ≡ h → applied h' us ≡ apply_ways (ways_of ws k h) (replace ws k r h) us
constant_returns ws k r h h' c us e q =
    ap (λ v. applied v us) (q ∙ e)
    ∙ sym (apply_ways_none (constant c) us)
    ∙ ap (λ v. apply_ways (ways_of ws k v) (replace ws k r v) us) (sym e)

-- THE ARGUMENTS OF A TERM

-- a type, and that the argument has it
pub record Typed (scope : Scope) (ctx : List SimpleType) (u : Lambda) : Type 0 where
  pub type : SimpleType
  pub holds : IsCanonical scope ctx type u

argument_fits : (scope : Scope) (ctx : List SimpleType) (a : SimpleType) (us : List Lambda) (i : ℕ) (u : Lambda) → ArgumentsFit scope ctx a us → slice_get us i ≡ Some u → Typed scope ctx u
argument_fits scope ctx a [] i u f h = cc
argument_fits scope ctx (base n) (v ∷ us) i u f h = absurd f
argument_fits scope ctx (arrow a b) (v ∷ us) zero u f h = let e : v ≡ u = cc in record { type = a; holds = subst (λ x. IsCanonical scope ctx a x) e f.0 }
argument_fits scope ctx (arrow a b) (v ∷ us) (suc i) u f h = argument_fits scope ctx b us i u f.1 h

spine_in : (a : SimpleType) (k : ℕ) (r : Lambda) (bs : List SimpleType) (h : Lambda) (us : List Lambda) (whole : Lambda) → NotFunction h → lambdas bs (applied h us) ≡ whole → (c : Replaces a k r whole) → Spine c.scope (under c.scope bs c.front ++ a ∷ c.ctx) h us
spine_in a k r bs h us whole o e c =
    subst (λ x. Spine c.scope x h us) (under_front c.scope bs c.front (a ∷ c.ctx))
    (spine_under c.scope bs (c.front ++ a ∷ c.ctx) c.result h us o (subst (λ x. IsCanonical c.scope (c.front ++ a ∷ c.ctx) c.result x) (sym e) c.t_in))

pub argument_ready : (a : SimpleType) (k n : ℕ) (r : Lambda) (bs : List SimpleType) (h : Lambda) (us : List Lambda) (whole : Lambda) → NotFunction h → n ≡ k + length bs → lambdas bs (applied h us) ≡ whole → Replaces a k r whole → (i : ℕ) (u : Lambda) → slice_get us i ≡ Some u → Replaces a n r u × (2 + price (ways a) (prices a) n r u < 2 + price (ways a) (prices a) k r whole)
argument_ready a k n r bs h us whole o e w c i u g =
    let s = spine_in a k r bs h us whole o w c in
    let t = argument_fits c.scope (under c.scope bs c.front ++ a ∷ c.ctx) s.head_type us i u s.arguments g in
    (record { scope = c.scope; ctx = c.ctx; front = under c.scope bs c.front; result = t.type; length_is = omega (arith, length-under c.scope bs c.front, c.length_is); r_in = c.r_in; t_in = t.holds }, omega (arith, argument_paid (ways a) (prices a) r k n bs h us whole e w i u g))

get_at : (front : List SimpleType) (a : SimpleType) (ctx : List SimpleType) → slice_get (front ++ a ∷ ctx) (length front) ≡ Some a
get_at [] a ctx = refl
get_at (b ∷ front) a ctx = get_at front a ctx

variable_type : (scope : Scope) (front : List SimpleType) (a : SimpleType) (ctx : List SimpleType) (c : SimpleType) (n : ℕ) (h : Lambda) → length front ≡ n → h ≡ bound n → IsNeutral scope (front ++ a ∷ ctx) c h → c ≡ a
variable_type scope front a ctx c n h e q i =
    let i' : slice_get (front ++ a ∷ ctx) n ≡ Some c = subst (λ t. IsNeutral scope (front ++ a ∷ ctx) c t) q i in
    let g : slice_get (front ++ a ∷ ctx) n ≡ Some a = subst (λ m. slice_get (front ++ a ∷ ctx) m ≡ Some a) e (get_at front a ctx) in
    cc

pub head_of_ready : (a : SimpleType) (k n : ℕ) (r : Lambda) (bs : List SimpleType) (h : Lambda) (us us' : List Lambda) (whole : Lambda) → NotFunction h → n ≡ k + length bs → lambdas bs (applied h us) ≡ whole → Replaces a k r whole → us' ≡ map (replace (ways a) n r) us → HeadReplaces a n r h us' × (1 + price_all (ways_of (ways a) n h) (ways_of (prices a) n h) (replace (ways a) n r h) us' < 2 + price (ways a) (prices a) k r whole)
head_of_ready a k n r bs h us us' whole o e w c m =
    let s = spine_in a k r bs h us whole o w c in
    let front = under c.scope bs c.front in
    let len : length (under c.scope bs c.front) ≡ n = omega (arith, length-under c.scope bs c.front, c.length_is) in (
      record {
        scope = c.scope;
        ctx = c.ctx;
        front = under c.scope bs c.front;
        length_is = len;
        r_in = c.r_in;
        us_in = λ q.
            subst (λ vs. ArgumentsFit c.scope (front ++ c.ctx) a vs) (sym m)
            (subst₂ (λ x b. ArgumentsFit c.scope (front ++ c.ctx) b (map (replace (ways a) x r) us)) len (variable_type c.scope front a c.ctx s.head_type n h len q s.head_in)
            (map_fits c.scope c.ctx a r c.r_in front s.head_type us s.arguments));
      },
      omega (arith, arguments_paid (ways a) (prices a) r k n bs h us us' whole e w m),
    )

pub not_function_head : (h : Head) → NotFunction (the_head h)
not_function_head (Bound k) = tt
not_function_head (Name k) = tt
not_function_head (Wit k) = tt
not_function_head False = tt
not_function_head Not = tt
not_function_head Imp = tt
not_function_head (All a) = tt
not_function_head (Eq a) = tt
not_function_head (Choice a) = tt
not_function_head (Desc a) = tt
