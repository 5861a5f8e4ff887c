-- Literals: formulas with a sign. As in Brown and Smolka, Analytic tableaux for simple type theory and its first-order fragment, 2010, all
-- formulas are normal forms; the sign is this project's form of an outer negation.
use Rattle.std.specs.Prelude.{◌≡◌, Bool, true, false, not, List, [], ◌∷◌}
use Rattle.stt_core.specs.SimpleType.{formula}
use Rattle.stt_core.specs.Lambda.{Lambda, constant, app, negation}
use Rattle.stt_core.specs.Typing.{Scope}
use Rattle.stt_core.specs.Canonical.{IsCanonical}

pub record Literal : Type 0 where
  pub positive : Bool
  pub atom : Lambda

abbrev pub plus : Lambda → Literal
plus t = record { positive = true; atom = t }

abbrev pub minus : Lambda → Literal
minus t = record { positive = false; atom = t }

-- the negation of a literal: the other sign
abbrev pub opposite : Literal → Literal
opposite l = record { positive = not l.positive; atom = l.atom }

-- The literal of a canonical formula: its outer negations are taken off, and each changes the sign.
abbrev pub as_literal : Lambda → Literal
as_literal (app (constant negation) s) = opposite (as_literal s)
as_literal t = plus t

-- whether a formula's head is negation
abbrev pub is_negated : Lambda → Bool
is_negated (app (constant negation) s) = true
is_negated t = false

-- a literal over what is declared: a sign and a closed canonical formula whose head isn't negation
pub record IsLiteral (scope : Scope) (l : Literal) : Type 0 where
  pub formula : IsCanonical scope [] formula l.atom
  pub unsigned : is_negated l.atom ≡ false

-- A branch is a list of literals, read as a set.
abbrev pub IsBranch : Scope → List Literal → Type 0
IsBranch scope [] = Unit {0}
IsBranch scope (l ∷ branch) = IsLiteral scope l × IsBranch scope branch
