-- What matching finds is closed.
use Rattle.std.specs.Prelude.{◌≡◌, ◌<◌, ◌+◌, ℕ, zero, suc, Bool, true, false, List, [], ◌∷◌, length, Option, Some, None, option_map, option_and_then, refl, if◌then◌else◌}
use Rattle.std.proofs.Common.{sym, ap, subst, arith}
use Rattle.std.proofs.lemmas.Bool.{lt-ltb}
use Rattle.std.proofs.lemmas.Option.{same_Some}
use Rattle.stt_core.specs.SimpleType.{SimpleType, same_type}
use Rattle.stt_core.specs.Lambda.{Lambda, bound, constant, lam, app}
use Rattle.stt_core.specs.SameTerm.{same_term}
use Rattle.tableau_calculus.specs.Each.{Each}
use Rattle.search_spec.specs.Closed.{is_bound_by, is_closed}
use Rattle.search_spec.specs.Matching.Variables.{free_head, local_arguments}
use Rattle.search_spec.specs.Matching.Match.{Bindings, place_among, rebound_variable, both_of, rebound, under_binders, function_giving, with_binding, match_variable, match_head, match_term}
use Rattle.search_spec.specs.Matching.Laws.{StandsForClosed, FoundTermsAreClosed}
use Rattle.search_spec.proofs.ClosedLaws.{both_true}

-- TERMS UNDER NEW BINDERS

-- an answer is made of an answer
mapped_some : {A B : Type 0} (f : A → B) (o : Option A) (y : B) → option_map f o ≡ Some y → (x : A) × (o ≡ Some x) × (y ≡ f x)
mapped_some f None y e = cc
mapped_some f (Some x) y e = (x, refl, sym (same_Some (f x) y e))

both_some : {A B C : Type 0} (f : A → B → C) (o : Option A) (p : Option B) (z : C) → both_of f o p ≡ Some z → (x : A) × (y : B) × (o ≡ Some x) × (p ≡ Some y) × (z ≡ f x y)
both_some f None p z e = cc
both_some f (Some x) p z e = let m = mapped_some (f x) p z e in (x, m.0, refl, m.1, m.2)

then_some : {A B : Type 0} (f : A → Option B) (o : Option A) (y : B) → option_and_then f o ≡ Some y → (x : A) × (o ≡ Some x) × (f x ≡ Some y)
then_some f None y e = cc
then_some f (Some x) y e = (x, refl, e)

among_below : (ys : List ℕ) (j i : ℕ) → place_among ys j ≡ Some i → i < length ys
among_below [] j i e = cc
among_below (y ∷ ys) j i e = go (same_term (bound y) (bound j)) e (among_below ys j)
  where
    go : (b : Bool) → (if b then Some 0 else option_map suc (place_among ys j)) ≡ Some i → ((k : ℕ) → place_among ys j ≡ Some k → k < length ys) → i < suc (length ys)
    go true h rest = let k : 0 ≡ i = same_Some 0 i h in omega (arith, k)
    go false h rest = let m = mapped_some suc (place_among ys j) i h in let l = rest m.0 m.1 in let n = m.2 in omega (arith, l, n)

variable_below : (ys : List ℕ) (k j i : ℕ) → rebound_variable ys k j ≡ Some i → i < k + length ys
variable_below ys zero j i e = let l = among_below ys j i e in omega (arith, l)
variable_below ys (suc k) zero i e = let z : zero ≡ i = same_Some zero i e in omega (arith, z)
variable_below ys (suc k) (suc j) i e =
    let m = mapped_some suc (rebound_variable ys k j) i e in let l = variable_below ys k j m.0 m.1 in let n = m.2 in omega (arith, l, n)

-- the new binders bind what was rebound, under those that stay
rebound_bound : (ys : List ℕ) (k : ℕ) (v w : Lambda) → rebound ys k v ≡ Some w → is_bound_by (k + length ys) w ≡ true
rebound_bound ys k (bound j) w e =
    let m = mapped_some bound (rebound_variable ys k j) w e in
    subst (λ x. is_bound_by (k + length ys) x ≡ true) (sym m.2) (lt-ltb m.0 (k + length ys) (variable_below ys k j m.0 m.1))
rebound_bound ys k (constant c) w e = ap (is_bound_by (k + length ys)) (sym (same_Some (constant c) w e))
rebound_bound ys k (lam a s) w e =
    let m = mapped_some (lam a) (rebound ys (suc k) s) w e in
    let h = rebound_bound ys (suc k) s m.0 m.1 in
    subst (λ x. is_bound_by (k + length ys) x ≡ true) (sym m.2) (subst (λ n. is_bound_by n m.0 ≡ true) (let n : suc k + length ys ≡ suc (k + length ys) = omega arith in n) h)
rebound_bound ys k (app s u) w e =
    let m = both_some app (rebound ys k s) (rebound ys k u) w e in
    subst (λ x. is_bound_by (k + length ys) x ≡ true) (sym m.4)
    (both_true (is_bound_by (k + length ys) m.0) (is_bound_by (k + length ys) m.1) (rebound_bound ys k s m.0 m.2) (rebound_bound ys k u m.1 m.3))

under_bound : (locals : List SimpleType) (ys : List ℕ) (t : Lambda) (n : ℕ) → is_bound_by (n + length ys) t ≡ true → is_bound_by n (under_binders locals ys t) ≡ true
under_bound locals [] t n h = subst (λ m. is_bound_by m t ≡ true) (let e : n + 0 ≡ n = omega arith in e) h
under_bound locals (y ∷ ys) t n h = under_bound locals ys _ n (subst (λ m. is_bound_by m t ≡ true) (let e : n + suc (length ys) ≡ suc (n + length ys) = omega arith in e) h)

function_closed : (locals : List SimpleType) (ys : List ℕ) (v u : Lambda) → function_giving locals ys v ≡ Some u → is_closed u ≡ true
function_closed locals ys v u e =
    let m = mapped_some (under_binders locals ys) (rebound ys 0 v) u e in
    subst (λ x. is_closed x ≡ true) (sym m.2) (under_bound locals ys m.0 0 (rebound_bound ys 0 v m.0 m.1))

-- BINDINGS

binding_closed : (i : ℕ) (u : Lambda) (bs found : Bindings) → is_closed u ≡ true → Each StandsForClosed bs → with_binding i u bs ≡ Some found → Each StandsForClosed found
binding_closed i u [] found c h e = cc
binding_closed zero u (None ∷ bs) found c h e = subst (Each StandsForClosed) (same_Some (Some u ∷ bs) found e) (c, h.1)
binding_closed zero u (Some w ∷ bs) found c h e = go (same_term w u) e
  where
    go : (b : Bool) → (if b then Some (Some w ∷ bs) else None) ≡ Some found → Each StandsForClosed found
    go true k = subst (Each StandsForClosed) (same_Some (Some w ∷ bs) found k) h
    go false k = cc
binding_closed (suc i) u (b ∷ bs) found c h e =
    let m = mapped_some (λ (xs : Bindings). b ∷ xs) (with_binding i u bs) found e in
    subst (Each StandsForClosed) (sym m.2) (h.0, binding_closed i u bs m.0 c h.1 m.1)

variable_closed : (locals : List SimpleType) (i : ℕ) (o : Option (List ℕ)) (v : Lambda) (bs found : Bindings) → Each StandsForClosed bs → match_variable locals i o v bs ≡ Some found → Each StandsForClosed found
variable_closed locals i None v bs found h e = subst (Each StandsForClosed) (same_Some bs found e) h
variable_closed locals i (Some ys) v bs found h e =
    let m = then_some (λ u. with_binding i u bs) (function_giving locals ys v) found e in
    binding_closed i m.0 bs found (function_closed locals ys v m.0 m.1) h m.2

head_closed : (locals : List SimpleType) (o : Option ℕ) (t v : Lambda) (bs found : Bindings) (otherwise : Option Bindings) → Each StandsForClosed bs
    → (otherwise ≡ Some found → Each StandsForClosed found) → match_head locals o t v bs otherwise ≡ Some found → Each StandsForClosed found
head_closed locals None t v bs found otherwise h k e = k e
head_closed locals (Some i) t v bs found otherwise h k e = variable_closed locals i (local_arguments (length locals) t) v bs found h e

same_closed : (b : Bool) (bs found : Bindings) → Each StandsForClosed bs → (if b then Some bs else None) ≡ Some found → Each StandsForClosed found
same_closed true bs found h e = subst (Each StandsForClosed) (same_Some bs found e) h
same_closed false bs found h e = cc

pub found-closed : FoundTermsAreClosed
found-closed locals (bound j) v bs found h e =
    head_closed locals (free_head (length locals) (bound j)) (bound j) v bs found (if same_term (bound j) v then Some bs else None) h (same_closed (same_term (bound j) v) bs found h) e
found-closed locals (constant c) v bs found h e = same_closed (same_term (constant c) v) bs found h e
found-closed locals (lam a s) (lam c v) bs found h e = go (same_type a c) e (found-closed (a ∷ locals) s v bs found h)
  where
    go : (b : Bool) → (if b then match_term (a ∷ locals) s v bs else None) ≡ Some found → (match_term (a ∷ locals) s v bs ≡ Some found → Each StandsForClosed found) → Each StandsForClosed found
    go true k rest = rest k
    go false k rest = cc
found-closed locals (lam a s) (bound j) bs found h e = cc
found-closed locals (lam a s) (constant c) bs found h e = cc
found-closed locals (lam a s) (app v w) bs found h e = cc
found-closed locals (app s u) (app v w) bs found h e =
    head_closed locals (free_head (length locals) s) (app s u) (app v w) bs found (option_and_then (match_term locals u w) (match_term locals s v bs)) h
    (λ k. let m = then_some (match_term locals u w) (match_term locals s v bs) found k in found-closed locals u w m.0 found (found-closed locals s v bs m.0 h m.1) m.2) e
found-closed locals (app s u) (bound j) bs found h e = head_closed locals (free_head (length locals) s) (app s u) (bound j) bs found None h (λ k. cc) e
found-closed locals (app s u) (constant c) bs found h e = head_closed locals (free_head (length locals) s) (app s u) (constant c) bs found None h (λ k. cc) e
found-closed locals (app s u) (lam a v) bs found h e = head_closed locals (free_head (length locals) s) (app s u) (lam a v) bs found None h (λ k. cc) e
