-- Every value is one of its type.
use Rattle.std.proofs.Common.{◌≡◌, ℕ, zero, suc, ◌+◌, ◌*◌, ◌-◌, ◌/◌, ◌^◌, mul-le-mul, ◌<◌, ◌≤◌, List, [], ◌∷◌, Option, Some, None, refl, ap, subst, subst₂, sym, Bool, true, false, nat_eq, slice_get, slice_index, unwrap_or, if◌then◌else◌, arith}
use Rattle.stt_core.specs.SimpleType.{SimpleType, base, arrow, formula, predicate, is_declared}
use Rattle.stt_core.specs.Lambda.{Constant, name, witness, falsity, negation, implication, all, equality, choice, description, Lambda, bound, constant, lam, app}
use Rattle.stt_core.specs.Typing.{Scope, type_of, constant_type, where_declared}
use Rattle.stt_core.specs.Digits.{entry, table}
use Rattle.stt_core.specs.Meaning.{Model, size, listed, value, result_size, constant_value, least_from, least_table, all_ones, Fits, IsModel}
use Rattle.stt_core.proofs.DigitLaws.{table-lt, power_pos}
use Rattle.stt_core.proofs.TypeLaws.{applies, abstracts}
use Rattle.std.proofs.Math.Nat.{mod-lt}

declared_only : (scope : Scope) (a b c : SimpleType) → where_declared scope a b ≡ Some c → b ≡ c
declared_only scope a b c h = go (is_declared scope.bases a) h
  where
    go : (t : Bool) → (if t then Some b else None) ≡ Some c → b ≡ c
    go true k = cc
    go false k = cc

pub test_below : (t : Bool) (x y b : ℕ) → x < b → y < b → (if t then x else y) < b
test_below true x y b h k = h
test_below false x y b h k = k

pub least-lt : (p n x b : ℕ) → 0 < b → x + n ≤ b → least_from p n x < b
least-lt p zero x b h k = h
least-lt p (suc n) x b h k = test_below (nat_eq (entry 2 p x) 1) x _ b (omega arith) (least-lt p n (suc x) b h (omega arith))

product-lt : (x y : ℕ) → x < 2 → y < 2 → x * y < 2
product-lt x y h k = let h' : x ≤ 1 = omega arith in let k' : y ≤ 1 = omega arith in omega (arith, mul-le-mul h' k')

pub all_ones-lt : (p n : ℕ) → all_ones p n < 2
all_ones-lt p zero = omega arith
all_ones-lt p (suc n) = product-lt (all_ones p n) (entry 2 p n) (all_ones-lt p n) (mod-lt (p / 2 ^ n) (omega arith))

pub get_fits : (m : Model) (ctx : List SimpleType) (env : List ℕ) (k : ℕ) (a : SimpleType) → Fits m ctx env → slice_get ctx k ≡ Some a → slice_index env k < size m a
get_fits m [] env k a f h = cc
get_fits m (b ∷ ctx) [] k a f h = absurd f
get_fits m (b ∷ ctx) (x ∷ env) zero a f h = let e : b ≡ a = cc in subst (λ c. x < size m c) e f.0
get_fits m (b ∷ ctx) (x ∷ env) (suc k) a f h = get_fits m ctx env k a f.1 h

module _ (scope : Scope) (m : Model) where
  -- a lambda is the table of its body's values
  pub value-lam : (ctx : List SimpleType) (env : List ℕ) (c b : SimpleType) (s : Lambda) → type_of scope (c ∷ ctx) s ≡ Some b → value scope m ctx env (lam c s) ≡ table (size m b) (size m c) (λ x. value scope m (c ∷ ctx) (x ∷ env) s)
  value-lam ctx env c b s h = ap (λ o. table (size m (unwrap_or o formula)) (size m c) (λ x. value scope m (c ∷ ctx) (x ∷ env) s)) h

  -- an application is the entry of the function at the argument
  pub value-app : (ctx : List SimpleType) (env : List ℕ) (c b : SimpleType) (s u : Lambda) → type_of scope ctx s ≡ Some (arrow c b) → value scope m ctx env (app s u) ≡ entry (size m b) (value scope m ctx env s) (value scope m ctx env u)
  value-app ctx env c b s u h = ap (λ o. entry (result_size m o) (value scope m ctx env s) (value scope m ctx env u)) h

module _ (scope : Scope) (m : Model) (good : IsModel scope m) where
  pub size_pos : (a : SimpleType) → 0 < size m a
  size_pos (base zero) = omega arith
  size_pos (base (suc n)) = good.sizes_pos (suc n)
  size_pos (arrow a b) = power_pos (size m b) (size m a) (size_pos b)

  listed-lt : (values : List (SimpleType × ℕ)) → ((a : SimpleType) (v : ℕ) → listed values a ≡ Some v → v < size m (arrow (predicate a) a)) → (a : SimpleType) (o : Option ℕ) → listed values a ≡ o → unwrap_or o (least_table (size m a)) < size m (arrow (predicate a) a)
  listed-lt values below a None e = table-lt (size m a) (2 ^ size m a) _ (λ p k. least-lt p (size m a) 0 (size m a) (size_pos a) (omega arith))
  listed-lt values below a (Some v) e = below a v e

  pub constant-lt : (c : Constant) (a : SimpleType) → constant_type scope c ≡ Some a → constant_value m c < size m a
  constant-lt (name k) a h = good.names_in k a h
  constant-lt (witness k) a h = good.witnesses_in k a h
  constant-lt falsity a h = let e : formula ≡ a = cc in subst (λ b. 0 < size m b) e (omega arith)
  constant-lt negation a h =
      let e : arrow formula formula ≡ a = cc in
      subst (λ b. constant_value m negation < size m b) e (table-lt 2 2 (λ p. 1 - p) (λ p k. omega arith))
  constant-lt implication a h =
      let e : arrow formula (arrow formula formula) ≡ a = cc in
      subst (λ b. constant_value m implication < size m b) e
      (table-lt 4 2 _ (λ p k. table-lt 2 2 _ (λ q l. test_below (nat_eq p 1) q 1 2 l (omega arith))))
  constant-lt (all b) a h =
      subst (λ c. constant_value m (all b) < size m c) (declared_only scope b _ a h) (table-lt 2 (2 ^ size m b) _ (λ p k. all_ones-lt p (size m b)))
  constant-lt (equality b) a h =
      subst (λ c. constant_value m (equality b) < size m c) (declared_only scope b _ a h)
      (table-lt (2 ^ size m b) (size m b) _ (λ x k. table-lt 2 (size m b) _ (λ y l. test_below (nat_eq x y) 1 0 2 (omega arith) (omega arith))))
  constant-lt (choice b) a h =
      subst (λ c. constant_value m (choice b) < size m c) (declared_only scope b _ a h) (listed-lt m.choices good.choices_in b (listed m.choices b) refl)
  constant-lt (description b) a h =
      subst (λ c. constant_value m (description b) < size m c) (declared_only scope b _ a h) (listed-lt m.descriptions good.descriptions_in b (listed m.descriptions b) refl)

  -- the value of a typed term is one of its type
  pub value-lt : (ctx : List SimpleType) (env : List ℕ) (a : SimpleType) (t : Lambda) → type_of scope ctx t ≡ Some a → Fits m ctx env → value scope m ctx env t < size m a
  value-lt ctx env a (bound k) h f = get_fits m ctx env k a f h
  value-lt ctx env a (constant c) h f = constant-lt c a h
  value-lt ctx env a (lam c s) h f =
      let d = abstracts scope.bases c _ a h in
      let below = table-lt (size m d.result) (size m c) _ (λ x k. value-lt (c ∷ ctx) (x ∷ env) d.result s d.body_type (k, f)) in
      subst₂ (λ v b. v < size m b) (sym (value-lam scope m ctx env c d.result s d.body_type)) (sym d.is) below
  value-lt ctx env a (app s u) h f =
      let d = applies _ _ a h in
      subst (λ v. v < size m a) (sym (value-app scope m ctx env d.argument a s u d.function_type)) (mod-lt (value scope m ctx env s / size m a ^ value scope m ctx env u) (size_pos a))
