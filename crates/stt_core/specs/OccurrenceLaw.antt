-- What a value depends on.
use Rattle.std.specs.Prelude.{◌≡◌, ℕ, suc, List, slice_index}
use Rattle.stt_core.specs.SimpleType.{SimpleType}
use Rattle.stt_core.specs.Lambda.{Lambda, name, witness, choice, description}
use Rattle.stt_core.specs.Typing.{Scope}
use Rattle.stt_core.specs.Meaning.{Model, constant_value, value}
use Rattle.stt_core.specs.Occurrence.{Occurs, IsFree}

-- Two models, each beside values of the variables, have the same base types from `$i` on, and agree on what occurs in a term: its
-- constants of the signature, its witnesses, its choices and its descriptions, and its free variables.
pub record AgreeOn (m n : Model) (env other : List ℕ) (t : Lambda) : Type 0 where
  pub sizes : (k : ℕ) → m.sizes (suc k) ≡ n.sizes (suc k)
  pub names : (k : ℕ) → Occurs (name k) t → m.name_values k ≡ n.name_values k
  pub witnesses : (k : ℕ) → Occurs (witness k) t → m.witness_values k ≡ n.witness_values k
  pub choices : (a : SimpleType) → Occurs (choice a) t → constant_value m (choice a) ≡ constant_value n (choice a)
  pub descriptions : (a : SimpleType) → Occurs (description a) t → constant_value m (description a) ≡ constant_value n (description a)
  pub variables : (k : ℕ) → IsFree k t → slice_index env k ≡ slice_index other k

-- a value depends on what occurs in the term, and on nothing else
abbrev pub ValuesDependOnOccurrences : Type 0
ValuesDependOnOccurrences =
    (scope : Scope) (ctx : List SimpleType) (m n : Model) (env other : List ℕ) (t : Lambda)
    → AgreeOn m n env other t
    → value scope m ctx env t ≡ value scope n ctx other t
