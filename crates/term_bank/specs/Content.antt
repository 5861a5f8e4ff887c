-- What a bank of terms holds.
use Rattle.std.specs.Prelude.{◌≡◌, ℕ, List, ◌++◌, map, length, slice_get, Some}
use Rattle.stt_core.specs.SimpleType.{SimpleType}
use Rattle.stt_core.specs.TypedName.{TypedName}
use Rattle.stt_core.specs.Lambda.{Lambda}
use Rattle.stt_core.specs.Typing.{Scope}

-- The names of the base types and the constants that are declared, the types of the witnesses, and the terms. A term is known by its
-- place in the list.
pub record Content : Type 0 where
  pub bases : List (List ℕ)
  pub consts : List TypedName
  pub witnesses : List SimpleType
  pub terms : List Lambda

-- what is declared
abbrev pub content_scope : Content → Scope
content_scope b = record { bases = length b.bases; names = map (λ c. c.type) b.consts; witnesses = b.witnesses }

-- exactly that term stands at the place
abbrev pub HasTerm : Content → ℕ → Lambda → Type 0
HasTerm b id t = slice_get b.terms id ≡ Some t

-- The declarations stay, and further terms stand behind the earlier ones, so that each place keeps its term.
pub record Grows (old new : Content) : Type 0 where
  pub bases : new.bases ≡ old.bases
  pub consts : new.consts ≡ old.consts
  pub witnesses : new.witnesses ≡ old.witnesses
  pub further : List Lambda
  pub terms : new.terms ≡ old.terms ++ further
