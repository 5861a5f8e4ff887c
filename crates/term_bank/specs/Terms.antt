-- The terms that nodes stand for.
use Rattle.std.specs.Prelude.{ℕ, ◌<◌, List, map, get_or, All}
use Rattle.stt_core.specs.SimpleType.{SimpleType}
use Rattle.stt_core.specs.Lambda.{Lambda, bound, lam, applied}
use Rattle.stt_core.specs.Typing.{Scope}
use Rattle.stt_core.specs.Canonical.{IsCanonical}
use Rattle.term_bank.specs.Shape.{Shape, abstraction, spine}

-- the term at a place of a list
abbrev pub term_at : List Lambda → ℕ → Lambda
term_at terms i = get_or terms i (bound 0)

-- the term of a node, where the list has the terms of the nodes below it
abbrev pub shape_term : List Lambda → Shape → Lambda
shape_term terms (abstraction a i) = lam a (term_at terms i)
shape_term terms (spine h is) = applied h (map (term_at terms) is)

-- the nodes that a node stands on are below a number
abbrev pub IsBelow : ℕ → Shape → Type 0
IsBelow n (abstraction a i) = i < n
IsBelow n (spine h is) = All (λ i. i < n) is

-- a term that is canonical in some context
pub record IsTypedTerm (scope : Scope) (t : Lambda) : Type 0 where
  pub ctx : List SimpleType
  pub type : SimpleType
  pub canonical : IsCanonical scope ctx type t
