-- Typed terms of a bank, and what it declares.
use Rattle.std.specs.Prelude.{◌≡◌, ◌<◌, ℕ, List, [], ◌∷◌, map, length}
use Rattle.stt_core.specs.SimpleType.{SimpleType, base, arrow}
use Rattle.stt_core.specs.Canonical.{IsCanonical}
use Rattle.term_bank.specs.Content.{Content, content_scope}
use Rattle.term_bank.specs.Terms.{term_at}

-- the types of the constants, in order
abbrev pub types : List SimpleType
types = base 1 ∷ arrow (base 1) (base 1) ∷ arrow (base 1) (arrow (base 1) (base 1)) ∷ arrow (arrow (base 1) (base 1)) (base 1) ∷ []

abbrev pub NamesIndividuals : Content → Type 0
NamesIndividuals b = map (λ c. c.type) b.consts ≡ types

abbrev pub HasNoWitness : Content → Type 0
HasNoWitness b = b.witnesses ≡ []

-- the term at the place has this type in this context
pub record IsOf (b : Content) (ctx : List SimpleType) (a : SimpleType) (id : ℕ) : Type 0 where
  pub within : id < length b.terms
  pub canonical : IsCanonical (content_scope b) ctx a (term_at b.terms id)

-- the term at the place is an individual in some context
pub record IsIndividual (b : Content) (id : ℕ) : Type 0 where
  pub ctx : List SimpleType
  pub typed : IsOf b ctx (base 1) id
