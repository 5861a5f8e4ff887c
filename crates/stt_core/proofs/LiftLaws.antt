-- Lifted variables, and lifting keeps types and values.
use Rattle.std.proofs.Common.{◌≡◌, ℕ, zero, suc, ◌<◌, ◌≤◌, List, [], ◌∷◌, ◌++◌, length, None, refl, ap, ap₂, ◌∙◌, sym, slice_get, slice_index, option_map, unwrap_or, if◌then◌else◌, arith}
use mathlib.Core.Path.{fun_ext}
use Rattle.stt_core.specs.SimpleType.{SimpleType, arrow, formula, is_declared}
use Rattle.stt_core.specs.Lambda.{Lambda, bound, constant, lam, app}
use Rattle.stt_core.specs.Typing.{Scope, type_of, applied_type}
use Rattle.stt_core.specs.Digits.{table}
use Rattle.stt_core.specs.Meaning.{Model, size, value}
use Rattle.stt_core.specs.Lift.{raised, lift}

pub raised_below : (k j : ℕ) → j < k → raised k j ≡ j
raised_below zero j h = absurd (omega arith)
raised_below (suc k) zero h = refl
raised_below (suc k) (suc j) h = ap suc (raised_below k j (omega arith))

pub raised_above : (k j : ℕ) → k ≤ j → raised k j ≡ suc j
raised_above zero j h = refl
raised_above (suc k) zero h = absurd (omega arith)
raised_above (suc k) (suc j) h = ap suc (raised_above k j (omega arith))

pub get_raised : {A : Type 0} (pre : List A) (x : A) (xs : List A) (j : ℕ) → slice_get (pre ++ x ∷ xs) (raised (length pre) j) ≡ slice_get (pre ++ xs) j
get_raised [] x xs j = refl
get_raised (y ∷ pre) x xs zero = refl
get_raised (y ∷ pre) x xs (suc j) = get_raised pre x xs j

pub index_raised : (pre : List ℕ) (x : ℕ) (xs : List ℕ) (j : ℕ) → slice_index (pre ++ x ∷ xs) (raised (length pre) j) ≡ slice_index (pre ++ xs) j
index_raised [] x xs j = refl
index_raised (y ∷ pre) x xs zero = refl
index_raised (y ∷ pre) x xs (suc j) = index_raised pre x xs j

module _ (scope : Scope) where
  pub type_of-lift : (pre : List SimpleType) (b : SimpleType) (ctx : List SimpleType) (t : Lambda) → type_of scope (pre ++ b ∷ ctx) (lift (length pre) t) ≡ type_of scope (pre ++ ctx) t
  type_of-lift pre b ctx (bound j) = get_raised pre b ctx j
  type_of-lift pre b ctx (constant c) = refl
  type_of-lift pre b ctx (lam a s) = ap (λ o. if is_declared scope.bases a then option_map (arrow a) o else None) (type_of-lift (a ∷ pre) b ctx s)
  type_of-lift pre b ctx (app s u) = ap₂ applied_type (type_of-lift pre b ctx s) (type_of-lift pre b ctx u)

  module _ (m : Model) where
    pub value-lift : (pre : List SimpleType) (es : List ℕ) → length es ≡ length pre → (b : SimpleType) (x : ℕ) (ctx : List SimpleType) (env : List ℕ) (t : Lambda) → value scope m (pre ++ b ∷ ctx) (es ++ x ∷ env) (lift (length pre) t) ≡ value scope m (pre ++ ctx) (es ++ env) t
    value-lift pre es e b x ctx env (bound j) = ap (λ k. slice_index (es ++ x ∷ env) (raised k j)) (sym e) ∙ index_raised es x env j
    value-lift pre es e b x ctx env (constant c) = refl
    value-lift pre es e b x ctx env (lam a s) =
        ap₂ (λ o g. table (size m (unwrap_or o formula)) (size m a) g)
        (type_of-lift (a ∷ pre) b ctx s)
        (fun_ext (λ y. value-lift (a ∷ pre) (y ∷ es) (ap suc e) b x ctx env s))
    value-lift pre es e b x ctx env (app s u) =
        cc (type_of-lift pre b ctx s, value-lift pre es e b x ctx env s, value-lift pre es e b x ctx env u)
