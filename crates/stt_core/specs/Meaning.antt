-- What terms mean in the standard models whose base types are finite (Henkin, Completeness in the theory of types, 1950; Andrews, An
-- introduction to mathematical logic and type theory, 2002, section 54).
use Rattle.std.specs.Prelude.{◌≡◌, ◌<◌, ℕ, zero, suc, ◌*◌, ◌^◌, ◌-◌, List, [], ◌∷◌, Option, Some, None, unwrap_or, slice_get, slice_index, nat_eq, if◌then◌else◌}
use Rattle.stt_core.specs.SimpleType.{SimpleType, base, arrow, formula, predicate, same_type}
use Rattle.stt_core.specs.Lambda.{Constant, name, witness, falsity, negation, implication, all, equality, choice, description, Lambda, bound, constant, lam, app}
use Rattle.stt_core.specs.Typing.{Scope, type_of}
use Rattle.stt_core.specs.Digits.{entry, table}

-- A model: how many values each base type from `$i` on has, the values of the constants of the signature and of the witnesses, and
-- the values of the choices from some types and of the descriptions of values of some types.
pub record Model : Type 0 where
  pub sizes : ℕ → ℕ
  pub name_values : ℕ → ℕ
  pub witness_values : ℕ → ℕ
  pub choices : List (SimpleType × ℕ)
  pub descriptions : List (SimpleType × ℕ)

-- How many values a type has. The values of type a are the numbers below `size m a`; of a function they are the digits, one for each
-- argument.
abbrev pub size : Model → SimpleType → ℕ
size m (base zero) = 2
size m (base (suc n)) = m.sizes (suc n)
size m (arrow a b) = size m b ^ size m a

-- the value that is listed for a type, where one is
abbrev pub listed : List (SimpleType × ℕ) → SimpleType → Option ℕ
listed [] a = None
listed (v ∷ values) a = if same_type v.0 a then Some v.1 else listed values a

-- the least of the n numbers from x on at which p has the entry 1, or 0 where there is none
abbrev pub least_from : ℕ → ℕ → ℕ → ℕ
least_from p zero x = 0
least_from p (suc n) x = if nat_eq (entry 2 p x) 1 then x else least_from p n (suc x)

-- the function that gives the least number with the entry 1 in a predicate on n numbers, or 0 where there is none
abbrev pub least_table : ℕ → ℕ
least_table n = table n (2 ^ n) (λ p. least_from p n 0)

-- 1 where each of the first n entries of p is 1, else 0
abbrev pub all_ones : ℕ → ℕ → ℕ
all_ones p zero = 1
all_ones p (suc n) = all_ones p n * entry 2 p n

-- the value of a constant: those of the logic are the tables of their usual meaning
abbrev pub constant_value : Model → Constant → ℕ
constant_value m (name k) = m.name_values k
constant_value m (witness k) = m.witness_values k
constant_value m falsity = 0
constant_value m negation = table 2 2 (λ p. 1 - p)
constant_value m implication = table 4 2 (λ p. table 2 2 (λ q. if nat_eq p 1 then q else 1))
constant_value m (all a) = table 2 (2 ^ size m a) (λ p. all_ones p (size m a))
constant_value m (equality a) = table (2 ^ size m a) (size m a) (λ x. table 2 (size m a) (λ y. if nat_eq x y then 1 else 0))
constant_value m (choice a) = unwrap_or (listed m.choices a) (least_table (size m a))
constant_value m (description a) = unwrap_or (listed m.descriptions a) (least_table (size m a))

-- how many values the type of a term has
abbrev pub size_of : Scope → Model → List SimpleType → Lambda → ℕ
size_of scope m ctx t = size m (unwrap_or (type_of scope ctx t) formula)

-- how many values there are for what a function of this type gives
abbrev pub result_size : Model → Option SimpleType → ℕ
result_size m (Some (arrow a b)) = size m b
result_size m (Some (base n)) = 1
result_size m None = 1

-- The value of a typed term. `env` has the values of its free bound variables, innermost first, and `ctx` their types.
abbrev pub value : Scope → Model → List SimpleType → List ℕ → Lambda → ℕ
value scope m ctx env (bound k) = slice_index env k
value scope m ctx env (constant c) = constant_value m c
value scope m ctx env (lam a s) = table (size_of scope m (a ∷ ctx) s) (size m a) (λ x. value scope m (a ∷ ctx) (x ∷ env) s)
value scope m ctx env (app s u) = entry (result_size m (type_of scope ctx s)) (value scope m ctx env s) (value scope m ctx env u)

-- each value is one of its type
abbrev pub Fits : Model → List SimpleType → List ℕ → Type 0
Fits m [] env = Unit {0}
Fits m (a ∷ ctx) [] = ⊥
Fits m (a ∷ ctx) (x ∷ env) = (x < size m a) × Fits m ctx env

-- The value e is a choice from n values: at each predicate that holds somewhere it gives a value at which the predicate holds. A
-- predicate is the number whose digits in base 2 are its entries.
abbrev pub IsChoice : ℕ → ℕ → Type 0
IsChoice n e =
    (p : ℕ) → p < 2 ^ n
    → (x : ℕ) → x < n → entry 2 p x ≡ 1
    → entry 2 p (entry n e p) ≡ 1

-- The value d is a description of n values: at each predicate that holds at just one value it gives that value.
abbrev pub IsDescription : ℕ → ℕ → Type 0
IsDescription n d =
    (p : ℕ) → p < 2 ^ n
    → (x : ℕ) → x < n → entry 2 p x ≡ 1
    → ((y : ℕ) → y < n → entry 2 p y ≡ 1 → y ≡ x)
    → entry n d p ≡ x

-- A model for what is declared: no base type is empty, each constant and each witness has a value of its type, and what is listed as the
-- choice from a type, or as the description of its values, is one.
pub record IsModel (scope : Scope) (m : Model) : Type 0 where
  pub sizes_pos : (n : ℕ) → 0 < m.sizes n
  pub names_in : (k : ℕ) (a : SimpleType) → slice_get scope.names k ≡ Some a → m.name_values k < size m a
  pub witnesses_in : (k : ℕ) (a : SimpleType) → slice_get scope.witnesses k ≡ Some a → m.witness_values k < size m a
  pub choices_in : (a : SimpleType) (e : ℕ) → listed m.choices a ≡ Some e → e < size m (arrow (predicate a) a)
  pub choices_law : (a : SimpleType) (e : ℕ) → listed m.choices a ≡ Some e → IsChoice (size m a) e
  pub descriptions_in : (a : SimpleType) (d : ℕ) → listed m.descriptions a ≡ Some d → d < size m (arrow (predicate a) a)
  pub descriptions_law : (a : SimpleType) (d : ℕ) → listed m.descriptions a ≡ Some d → IsDescription (size m a) d
