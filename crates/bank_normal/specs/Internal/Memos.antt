-- What a memo knows, and what it comes to know.
use Rattle.std.specs.Prelude.{◌≡◌, ℕ, List, ◌⊎◌, refl}
use Rattle.std.specs.Coded.{Coded, code_by, coded×, coded_ℕ}
use Rattle.stt_core.specs.SimpleType.{SimpleType, base}
use Rattle.stt_core.specs.Internal.TypeCode.{type_code}
use Rattle.term_bank.specs.Shape.{Shape, abstraction, spine}
use Rattle.term_bank.specs.NodeView.{the_shape}
use Rattle.term_bank.specs.declared.node.Node.{Node}
use Rattle.bank_normal.specs.Known.{Known, KnownVariable, IsKnown}
use Rattle.bank_normal.specs.declared.memo.Key.{Key}

-- what an entry says
abbrev pub known_result : Key × ℕ → Known
known_result e = record { by = e.0.by; depth = e.0.depth; term = e.0.term; result = e.1 }

-- the type of a binder (no head stands as key)
abbrev pub binder_type : Shape → SimpleType
binder_type (abstraction a i) = a
binder_type (spine h is) = base 0

-- what an entry says whose key is a binder
abbrev pub known_variable : Node × ℕ → KnownVariable
known_variable e = record { type = binder_type (the_shape e.0); result = e.1 }

-- by which such values are told apart
abbrev pub known_variable_code : Coded KnownVariable
known_variable_code =
    code_by (SimpleType × ℕ) (coded× type_code coded_ℕ) (λ k. (k.type, k.result)) (λ p. record { type = p.0; result = p.1 }) (λ _. refl)

-- of what the new list has, only this isn't in the old one
abbrev pub KnowsOnly : {A : Type 0} → List A → List A → A → Type 0
KnowsOnly {A = A} old new k = (j : A) → IsKnown new j → IsKnown old j ⊎ (j ≡ k)
