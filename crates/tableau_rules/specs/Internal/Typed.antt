-- Terms of a bank that fit together.
use Rattle.std.specs.Prelude.{◌≡◌, ℕ, ◌<◌, true, List, [], ◌∷◌, length, Option, Some, None, ◌⊎◌}
use Rattle.stt_core.specs.SimpleType.{SimpleType, arrow, formula, predicate, is_declared}
use Rattle.stt_core.specs.Lambda.{Lambda, constant, choice, description}
use Rattle.stt_core.specs.Canonical.{IsCanonical}
use Rattle.term_bank.specs.Content.{Content, content_scope}
use Rattle.term_bank.specs.Terms.{term_at}

-- closed terms of this type stand at the places
pub record AreSides (b : Content) (a : SimpleType) (s t : ℕ) : Type 0 where
  pub left_within : s < length b.terms
  pub right_within : t < length b.terms
  pub declared : is_declared (content_scope b).bases a ≡ true
  pub left : IsCanonical (content_scope b) [] a (term_at b.terms s)
  pub right : IsCanonical (content_scope b) [] a (term_at b.terms t)

-- a closed function from this type, which is declared, stands at the place
pub record IsFunction (b : Content) (a : SimpleType) (f : ℕ) : Type 0 where
  pub within : f < length b.terms
  pub declared : is_declared (content_scope b).bases a ≡ true
  pub result : SimpleType
  pub function_in : IsCanonical (content_scope b) [] (arrow a result) (term_at b.terms f)

-- a formula stands at the place, in which only a variable of this type and further ones may be free
pub record IsOpenFormula (b : Content) (a : SimpleType) (s : ℕ) : Type 0 where
  pub within : s < length b.terms
  pub declared : is_declared (content_scope b).bases a ≡ true
  pub outer : List SimpleType
  pub formula_in : IsCanonical (content_scope b) (a ∷ outer) formula (term_at b.terms s)

-- a closed predicate on this type stands at the place
pub record IsPredicate (b : Content) (a : SimpleType) (f : ℕ) : Type 0 where
  pub within : f < length b.terms
  pub predicate_in : IsCanonical (content_scope b) [] (predicate a) (term_at b.terms f)

-- the type that the predicate at a place is one on, or none where no closed predicate stands there
abbrev pub IsPredicateType : Content → ℕ → Option SimpleType → Type 0
IsPredicateType b f (Some a) = IsPredicate b a f
IsPredicateType b f None = (a : SimpleType) → IsCanonical (content_scope b) [] (predicate a) (term_at b.terms f) → ⊥

-- the head picks a value of this type for each predicate on it
abbrev pub IsOperator : SimpleType → Lambda → Type 0
IsOperator a h = (h ≡ constant (choice a)) ⊎ (h ≡ constant (description a))
