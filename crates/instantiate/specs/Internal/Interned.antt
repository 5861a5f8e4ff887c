-- Terms of a bank by their numbers.
use Rattle.std.specs.Prelude.{◌≡◌, ℕ, List, slice_get, Some}
use Rattle.stt_core.specs.Lambda.{Lambda}
use Rattle.stt_core.specs.Typing.{Scope}
use Rattle.term_bank.specs.Terms.{IsTypedTerm}

-- each of the terms is canonical in some context
abbrev pub AreTyped : Scope → List Lambda → Type 0
AreTyped scope us = (i : ℕ) (u : Lambda) → slice_get us i ≡ Some u → IsTypedTerm scope u
