-- What quantifiers and tables may leave out.
use Rattle.std.proofs.Common.{◌≡◌, ℕ, zero, suc, ◌+◌, ◌*◌, ◌%◌, ◌-◌, ◌^◌, ◌<◌, ◌≤◌, List, [], ◌∷◌, Bool, true, false, nat_eq, if◌then◌else◌, slice_index, refl, ap, ap₂, sym, subst, ◌∙◌, arith, mod-eq_of_lt}
use Rattle.std.proofs.Math.Nat.{pow-succ', pow-zero, pow-le-pow_right}
use mathlib.Core.Path.{fun_ext}
use Rattle.stt_core.specs.Digits.{entry, table}
use Rattle.stt_core.proofs.DigitLaws.{table-lt, table_same, table-entry}
use Rattle.finite_models.specs.Internal.Worth.{worth, all_one, IsSafe}
use Rattle.finite_models.specs.Internal.Binder.{IsWithout, IsVariable, IsEntryInside, AreRounds, IsTableOf}
use Rattle.finite_models.specs.declared.expr.Expr.{Expr}
use Rattle.finite_models.specs.declared.expr.Expr.TheVariants.{Bound, Symbol, False, Not', Imp', All', Eq', Apply', Table', Repeat', Whole'}

-- the same values but for one variable
abbrev SameBut : ℕ → List ℕ → List ℕ → Type 0
SameBut k env env' = (j : ℕ) → (j ≡ k → ⊥) → slice_index env j ≡ slice_index env' j

under : (k x : ℕ) (env env' : List ℕ) → SameBut k env env' → SameBut (suc k) (x ∷ env) (x ∷ env')
under k x env env' h zero n = refl
under k x env env' h (suc j) n = h j (λ e. n (ap suc e))

-- a variable that doesn't occur doesn't matter
worth_without : (e : Expr) (k : ℕ) (vs env env' : List ℕ) → IsWithout k e → SameBut k env env' → worth e vs env ≡ worth e vs env'
worth_without (Bound j) k vs env env' w h = h j w
worth_without (Symbol i) k vs env env' w h = refl
worth_without False k vs env env' w h = refl
worth_without (Not' p e) k vs env env' w h = ap (λ x. 1 - x) (worth_without e k vs env env' w h)
worth_without (Imp' p a q b) k vs env env' w h =
    ap₂ (λ x y. if nat_eq x 1 then y else 1) (worth_without a k vs env env' w.0 h) (worth_without b k vs env env' w.1 h)
worth_without (All' n p e) k vs env env' w h =
    ap (all_one n) (fun_ext (λ x. worth_without e (suc k) vs (x ∷ env) (x ∷ env') w (under k x env env' h)))
worth_without (Eq' p a q b) k vs env env' w h =
    ap₂ (λ x y. if nat_eq x y then 1 else 0) (worth_without a k vs env env' w.0 h) (worth_without b k vs env env' w.1 h)
worth_without (Apply' b p f q x) k vs env env' w h =
    ap₂ (entry b) (worth_without f k vs env env' w.0 h) (worth_without x k vs env env' w.1 h)
worth_without (Table' b n p e) k vs env env' w h =
    ap (table b n) (fun_ext (λ x. worth_without e (suc k) vs (x ∷ env) (x ∷ env') w (under k x env env' h)))
worth_without (Repeat' n p e) k vs env env' w h =
    ap (λ x. x * n) (worth_without e (suc k) vs (0 ∷ env) (0 ∷ env') w (under k 0 env env' h))
worth_without (Whole' n p e) k vs env env' w h =
    ap (λ x. x % n) (worth_without e (suc k) vs (0 ∷ env) (0 ∷ env') w (under k 0 env env' h))

-- the value of the innermost variable, where that doesn't occur
innermost : (x y : ℕ) (env : List ℕ) → SameBut 0 (x ∷ env) (y ∷ env)
innermost x y env zero n = absurd (n refl)
innermost x y env (suc j) n = refl

same_inside : (e : Expr) (vs env : List ℕ) (x y : ℕ) → IsWithout 0 e → worth e vs (x ∷ env) ≡ worth e vs (y ∷ env)
same_inside e vs env x y w = worth_without e 0 vs (x ∷ env) (y ∷ env) w (innermost x y env)

-- QUANTIFIERS

one_round : (n : ℕ) (g : ℕ → ℕ) → 1 ≤ n → ((x y : ℕ) → g x ≡ g y) → all_one 1 g ≡ all_one n g
one_round zero g l h = absurd (omega arith)
one_round (suc zero) g l h = refl
one_round (suc (suc n)) g l h =
    once (nat_eq (g 0) 1)
    ∙ ap (λ v. if nat_eq (g 0) 1 then v else 0) (one_round (suc n) g (omega arith) h)
    ∙ ap (λ v. if nat_eq v 1 then all_one (suc n) g else 0) (h 0 (suc n))
  where
    one : Bool → ℕ
    one b = if b then 1 else 0

    once : (b : Bool) → one b ≡ (if b then one b else 0)
    once true = refl
    once false = refl

pub rounds_once : (n : ℕ) (body : Expr) → 1 ≤ n → IsWithout 0 body → AreRounds n body 1
rounds_once n body l w = record {
  few = l;
  same = λ vs env. one_round n (λ x. worth body vs (x ∷ env)) l (λ x y. same_inside body vs env x y w);
}

-- TABLES

pub ones_of_one : (b n : ℕ) → b ≡ 1 → n ≡ table b n (λ _. 1)
ones_of_one b n e = go n ∙ ap (λ x. table x n (λ _. 1)) (sym e)
  where
    power : (n : ℕ) → 1 ^ n ≡ 1
    power zero = refl
    power (suc n) = omega (arith, power n, pow-succ' 1 n)

    go : (n : ℕ) → n ≡ table 1 n (λ _. 1)
    go zero = refl
    go (suc n) = omega (arith, go n, power n)

-- a table of the same digit
repeated : (b n v : ℕ) → table b n (λ _. v) ≡ v * table b n (λ _. 1)
repeated b zero v = omega arith
repeated b (suc n) v = omega (arith, repeated b n v)

pub table_repeated : (b n times : ℕ) (body whole : Expr) → 1 ≤ n → b ^ n ≤ 2 ^ 20 → times ≡ table b n (λ _. 1) → IsWithout 0 body → ((vs env : List ℕ) → worth whole vs env ≡ worth body vs (0 ∷ env) * times) → ((vs env : List ℕ) → IsSafe body vs (0 ∷ env) → worth body vs (0 ∷ env) * times < 2 ^ 20 → IsSafe whole vs env) → IsTableOf b n body whole
table_repeated b n times body whole pos small e w is safe =
    record {
      is = λ vs env. is vs env ∙ same vs env;
      safe = λ vs env h.
          let first = h 0 (omega arith) in
          let lt : table b n (λ x. worth body vs (x ∷ env)) < b ^ n = table-lt b n (λ x. worth body vs (x ∷ env)) (λ y l. (h y l).1) in
          let q = same vs env in
          safe vs env first.0 (omega arith);
    }
  where
    same : (vs env : List ℕ) → worth body vs (0 ∷ env) * times ≡ table b n (λ x. worth body vs (x ∷ env))
    same vs env =
        ap (λ t. worth body vs (0 ∷ env) * t) e
        ∙ sym (repeated b n (worth body vs (0 ∷ env)))
        ∙ ap (table b n) (fun_ext (λ x. same_inside body vs env 0 x w))

variable_is : (x : Expr) (k n : ℕ) (vs env : List ℕ) → IsVariable k n x → slice_index env k < n → worth x vs env ≡ slice_index env k
variable_is (Bound j) k n vs env h l = ap (slice_index env) h
variable_is (Symbol i) k n vs env h l = absurd h
variable_is False k n vs env h l = absurd h
variable_is (Not' p e) k n vs env h l = absurd h
variable_is (Imp' p a q b) k n vs env h l = absurd h
variable_is (All' m p e) k n vs env h l = absurd h
variable_is (Eq' p a q b) k n vs env h l = absurd h
variable_is (Apply' b p f q x) k n vs env h l = absurd h
variable_is (Table' b m p e) k n vs env h l = absurd h
variable_is (Repeat' m p e) k n vs env h l = absurd h
variable_is (Whole' m p e) k n vs env h l =
    ap (λ v. v % m) (variable_is e (suc k) n vs (0 ∷ env) h.1 l) ∙ mod-eq_of_lt (omega (arith, h.0))

pub table_whole : (b n count : ℕ) (f x body whole : Expr) → 1 ≤ b → 1 ≤ n → count ≡ b ^ n → 1 ≤ count → IsVariable 0 n x → IsWithout 0 f → ((vs env : List ℕ) → worth body vs env ≡ entry b (worth f vs env) (worth x vs env)) → ((vs env : List ℕ) → IsSafe body vs env → IsSafe f vs env) → ((vs env : List ℕ) → worth whole vs env ≡ worth f vs (0 ∷ env) % count) → ((vs env : List ℕ) → IsSafe f vs (0 ∷ env) → 1 ≤ count → IsSafe whole vs env) → IsTableOf b n body whole
table_whole b n count f x body whole pos some e some_count v w body_is body_safe is safe = record {
  is = λ vs env.
      is vs env
      ∙ ap (λ m. worth f vs (0 ∷ env) % m) e
      ∙ sym (table-entry b n (worth f vs (0 ∷ env)) pos)
      ∙ table_same b n (entry b (worth f vs (0 ∷ env))) (λ y. worth body vs (y ∷ env)) (λ y l. ap₂ (entry b) (same_inside f vs env 0 y w) (sym (variable_is x 0 n vs (y ∷ env) v l)) ∙ sym (body_is vs (y ∷ env)));
  safe = λ vs env h. safe vs env (body_safe vs (0 ∷ env) (h 0 (omega arith)).0) some_count;
}

pub base_small : (b n limit : ℕ) → 1 ≤ b → 1 ≤ n → b ^ n ≤ limit → b ≤ limit
base_small b n limit pos some h =
    let up : b ^ 1 ≤ b ^ n = pow-le-pow_right pos some in
    let e : b ^ 1 ≡ b * 1 = pow-succ' b 0 ∙ ap (λ x. b * x) (pow-zero b) in
    omega (arith, e, up, h)
