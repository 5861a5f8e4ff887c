-- What quantifiers and tables may leave out.
use Rattle.std.specs.Prelude.{◌≡◌, ◌<◌, ◌≤◌, ℕ, zero, suc, ◌^◌, List, ◌∷◌}
use Rattle.stt_core.specs.Digits.{table}
use Rattle.finite_models.specs.Internal.Worth.{worth, all_one, IsSafe, HasDigits}
use Rattle.finite_models.specs.declared.expr.Expr.{Expr}
use Rattle.finite_models.specs.declared.expr.Expr.TheVariants.{Bound, Symbol, False, Not', Imp', All', Eq', Apply', Table', Repeat', Whole'}

-- the variable doesn't occur
abbrev pub IsWithout : ℕ → Expr → Type 0
IsWithout k (Bound j) = j ≡ k → ⊥
IsWithout k (Symbol i) = Unit {0}
IsWithout k False = Unit {0}
IsWithout k (Not' p e) = IsWithout k e
IsWithout k (Imp' p a q b) = IsWithout k a × IsWithout k b
IsWithout k (All' n p e) = IsWithout (suc k) e
IsWithout k (Eq' p a q b) = IsWithout k a × IsWithout k b
IsWithout k (Apply' b p f q x) = IsWithout k f × IsWithout k x
IsWithout k (Table' b n p e) = IsWithout (suc k) e
IsWithout k (Repeat' n p e) = IsWithout (suc k) e
IsWithout k (Whole' n p e) = IsWithout (suc k) e

-- the number of values is enough to tell whether the body is 1 at each of the n values
pub record AreRounds (n : ℕ) (body : Expr) (rounds : ℕ) : Type 0 where
  pub few : rounds ≤ n
  pub same : (vs env : List ℕ) → all_one rounds (λ x. worth body vs (x ∷ env)) ≡ all_one n (λ x. worth body vs (x ∷ env))

-- The expression is a variable with values below n. It may be written as the function of its own entries.
abbrev pub IsVariable : ℕ → ℕ → Expr → Type 0
IsVariable k n (Bound j) = j ≡ k
IsVariable k n (Symbol i) = ⊥
IsVariable k n False = ⊥
IsVariable k n (Not' p e) = ⊥
IsVariable k n (Imp' p a q b) = ⊥
IsVariable k n (All' m p e) = ⊥
IsVariable k n (Eq' p a q b) = ⊥
IsVariable k n (Apply' b p f q x) = ⊥
IsVariable k n (Table' b m p e) = ⊥
IsVariable k n (Repeat' m p e) = ⊥
IsVariable k n (Whole' m p e) = (n ≤ m) × IsVariable (suc k) n e

-- the expression is the entry of a function at the innermost variable, which doesn't occur in the function
abbrev pub IsEntryInside : ℕ → ℕ → Expr → Type 0
IsEntryInside base n (Bound k) = ⊥
IsEntryInside base n (Symbol i) = ⊥
IsEntryInside base n False = ⊥
IsEntryInside base n (Not' p e) = ⊥
IsEntryInside base n (Imp' p a q b) = ⊥
IsEntryInside base n (All' m p e) = ⊥
IsEntryInside base n (Eq' p a q b) = ⊥
IsEntryInside base n (Apply' b p f q x) = (b ≡ base) × (IsVariable 0 n x × IsWithout 0 f)
IsEntryInside base n (Table' b m p e) = ⊥
IsEntryInside base n (Repeat' m p e) = ⊥
IsEntryInside base n (Whole' m p e) = ⊥

-- the expression is worth the table of the body, and can be evaluated where the body can
pub record IsTableOf (b n : ℕ) (body whole : Expr) : Type 0 where
  pub is : (vs env : List ℕ) → worth whole vs env ≡ table b n (λ x. worth body vs (x ∷ env))
  pub safe : (vs env : List ℕ) → HasDigits b n body vs env → IsSafe whole vs env
