-- What the logical constants mean.
use Rattle.std.proofs.Common.{◌≡◌, ℕ, zero, suc, ◌-◌, ◌*◌, ◌^◌, ◌<◌, List, Some, None, refl, ap, ap₂, ◌∙◌, true, nat_eq, if◌then◌else◌, ◌⊎◌, inl, inr, ⊎_elim, arith, le_of_suc-le-suc}
use Rattle.std.proofs.Math.Nat.{eq-or-lt_of_le}
use Rattle.stt_core.specs.SimpleType.{SimpleType, arrow, formula, is_declared}
use Rattle.stt_core.specs.Lambda.{implication, all, equality, Lambda, constant, app, neg, imp, eq, every}
use Rattle.stt_core.specs.Typing.{Scope, type_of, constant_type, applied_type}
use Rattle.stt_core.specs.Digits.{entry, table}
use Rattle.stt_core.specs.Meaning.{Model, size, value, all_ones, Fits, IsModel}
use Rattle.stt_core.proofs.DigitLaws.{entry-table, table-lt}
use Rattle.stt_core.proofs.TypeLaws.{applies, applied, given}
use Rattle.stt_core.proofs.ValueLaws.{size_pos, value-lt, value-app, test_below, all_ones-lt}

-- the types in an equation
pub record EqualTypes (scope : Scope) (ctx : List SimpleType) (a : SimpleType) (s t : Lambda) : Type 0 where
  pub declared : is_declared scope.bases a ≡ true
  pub left : type_of scope ctx s ≡ Some a
  pub right : type_of scope ctx t ≡ Some a

module _ (scope : Scope) (ctx : List SimpleType) where
  pub neg_type : (s : Lambda) (b : SimpleType) → type_of scope ctx (neg s) ≡ Some b → type_of scope ctx s ≡ Some formula
  neg_type s b h = let d = applies (Some (arrow formula formula)) (type_of scope ctx s) b h in let e = d.function_type in let f = d.argument_type in cc

  pub imp_types : (s t : Lambda) (b : SimpleType) → type_of scope ctx (imp s t) ≡ Some b → (type_of scope ctx s ≡ Some formula) × (type_of scope ctx t ≡ Some formula)
  imp_types s t b h =
      let d = applies (type_of scope ctx (app (constant implication) s)) (type_of scope ctx t) b h in
      let e = applies (Some (arrow formula (arrow formula formula))) (type_of scope ctx s) (arrow d.argument b) d.function_type in
      let p = e.function_type in
      let q = e.argument_type in
      let r = d.argument_type in
      (cc, cc)

  pub eq_types : (a : SimpleType) (s t : Lambda) (b : SimpleType) → type_of scope ctx (eq a s t) ≡ Some b → EqualTypes scope ctx a s t
  eq_types a s t b h =
      let d = applies (type_of scope ctx (app (constant (equality a)) s)) (type_of scope ctx t) b h in
      let e = applies (constant_type scope (equality a)) (type_of scope ctx s) (arrow d.argument b) d.function_type in
      let g = given scope a (arrow a (arrow a formula)) (arrow e.argument (arrow d.argument b)) e.function_type in
      let p = g.is in
      let q = e.argument_type in
      let r = d.argument_type in
      record { declared = g.declared; left = cc; right = cc }

  pub every_types : (a : SimpleType) (f : Lambda) (b : SimpleType) → type_of scope ctx (every a f) ≡ Some b → (is_declared scope.bases a ≡ true) × (type_of scope ctx f ≡ Some (arrow a formula))
  every_types a f b h =
      let e = applies (constant_type scope (all a)) (type_of scope ctx f) b h in
      let g = given scope a (arrow (arrow a formula) formula) (arrow e.argument b) e.function_type in
      let p = g.is in
      let q = e.argument_type in
      (g.declared, cc)

module _ (scope : Scope) (m : Model) (good : IsModel scope m) (ctx : List SimpleType) (env : List ℕ) (f : Fits m ctx env) where
  pub value-neg : (s : Lambda) → type_of scope ctx s ≡ Some formula → value scope m ctx env (neg s) ≡ 1 - value scope m ctx env s
  value-neg s h = entry-table 2 2 (λ p. 1 - p) (omega arith) (λ p k. omega arith) (value scope m ctx env s) (value-lt scope m good ctx env formula s h f)

  pub value-imp : (s t : Lambda) → type_of scope ctx s ≡ Some formula → type_of scope ctx t ≡ Some formula → value scope m ctx env (imp s t) ≡ (if nat_eq (value scope m ctx env s) 1 then value scope m ctx env t else 1)
  value-imp s t h k =
      value-app scope m ctx env formula formula (app (constant implication) s) t (ap (applied_type (Some (arrow formula (arrow formula formula)))) h)
      ∙ ap (λ v. entry 2 v (value scope m ctx env t)) (entry-table 4 2 (λ p. table 2 2 (λ q. if nat_eq p 1 then q else 1)) (omega arith) (λ p l. table-lt 2 2 _ (λ q j. test_below (nat_eq p 1) q 1 2 j (omega arith))) (value scope m ctx env s) (value-lt scope m good ctx env formula s h f))
      ∙ entry-table 2 2 (λ q. if nat_eq (value scope m ctx env s) 1 then q else 1) (omega arith) (λ q j. test_below (nat_eq (value scope m ctx env s) 1) q 1 2 j (omega arith)) (value scope m ctx env t) (value-lt scope m good ctx env formula t k f)

  pub value-eq : (a : SimpleType) (s t : Lambda) → EqualTypes scope ctx a s t → value scope m ctx env (eq a s t) ≡ (if nat_eq (value scope m ctx env s) (value scope m ctx env t) then 1 else 0)
  value-eq a s t e =
      let c : constant_type scope (equality a) ≡ Some (arrow a (arrow a formula)) = ap (λ b. if b then Some (arrow a (arrow a formula)) else None) e.declared in
      value-app scope m ctx env a formula (app (constant (equality a)) s) t (ap₂ applied_type c e.left ∙ applied a (arrow a formula))
      ∙ ap (λ v. entry 2 v (value scope m ctx env t))
      (value-app scope m ctx env a (arrow a formula) (constant (equality a)) s c
      ∙ entry-table (2 ^ size m a) (size m a) (λ x. table 2 (size m a) (λ y. if nat_eq x y then 1 else 0)) (size_pos scope m good (arrow a formula)) (λ x l. table-lt 2 (size m a) _ (λ y j. test_below (nat_eq x y) 1 0 2 (omega arith) (omega arith))) (value scope m ctx env s) (value-lt scope m good ctx env a s e.left f))
      ∙ entry-table 2 (size m a) (λ y. if nat_eq (value scope m ctx env s) y then 1 else 0) (omega arith) (λ y j. test_below (nat_eq (value scope m ctx env s) y) 1 0 2 (omega arith) (omega arith)) (value scope m ctx env t) (value-lt scope m good ctx env a t e.right f)

  pub value-every : (a : SimpleType) (p : Lambda) → is_declared scope.bases a ≡ true → type_of scope ctx p ≡ Some (arrow a formula) → value scope m ctx env (every a p) ≡ all_ones (value scope m ctx env p) (size m a)
  value-every a p d h =
      let c : constant_type scope (all a) ≡ Some (arrow (arrow a formula) formula) = ap (λ b. if b then Some (arrow (arrow a formula) formula) else None) d in
      value-app scope m ctx env (arrow a formula) formula (constant (all a)) p c
      ∙ entry-table 2 (2 ^ size m a) (λ q. all_ones q (size m a)) (omega arith) (λ q l. all_ones-lt q (size m a)) (value scope m ctx env p) (value-lt scope m good ctx env (arrow a formula) p h f)

-- a number that is 0 or 1
pub bit : (x : ℕ) → x < 2 → (x ≡ 0) ⊎ (x ≡ 1)
bit zero h = inl refl
bit (suc zero) h = inr refl
bit (suc (suc x)) h = absurd (omega arith)

both_one : (x y : ℕ) → x < 2 → x * y ≡ 1 → (x ≡ 1) × (y ≡ 1)
both_one zero y h e = absurd (omega arith)
both_one (suc zero) y h e = (refl, omega arith)
both_one (suc (suc x)) y h e = absurd (omega arith)

one_zero : (x y : ℕ) → x < 2 → x * y ≡ 0 → (x ≡ 0) ⊎ (y ≡ 0)
one_zero zero y h e = inl refl
one_zero (suc zero) y h e = inr (omega arith)
one_zero (suc (suc x)) y h e = absurd (omega arith)

pub ones_each : (p n : ℕ) → all_ones p n ≡ 1 → (x : ℕ) → x < n → entry 2 p x ≡ 1
ones_each p zero h x l = absurd (omega arith)
ones_each p (suc n) h x l =
    let b = both_one (all_ones p n) (entry 2 p n) (all_ones-lt p n) h in
    let before = λ (k : x < n). ones_each p n b.0 x k in
    ⊎_elim (λ e. ap (entry 2 p) e ∙ b.1) before (eq-or-lt_of_le (le_of_suc-le-suc l))

pub some_zero : (p n : ℕ) → all_ones p n ≡ 0 → (x : ℕ) × (x < n) × (entry 2 p x ≡ 0)
some_zero p zero h = absurd (omega arith)
some_zero p (suc n) h =
    let rest = λ (k : all_ones p n ≡ 0). some_zero p n k in
    ⊎_elim (λ k. let r = rest k in (r.0, omega (arith, r.1), r.2)) (λ e. (n, omega arith, e)) (one_zero (all_ones p n) (entry 2 p n) (all_ones-lt p n) h)

pub each_one : (p n : ℕ) → ((x : ℕ) → x < n → entry 2 p x ≡ 1) → all_ones p n ≡ 1
each_one p zero h = refl
each_one p (suc n) h = ap₂ (λ x y. x * y) (each_one p n (λ x l. h x (omega arith))) (h n (omega arith))
