-- Literals, and which of them a clause holds. A clause is the list of its literals.
use Rattle.std.specs.Prelude.{Bool, true, false, not, ◌==◌, ◌&&◌, ◌≡◌, ℕ, ◌<◌, List, [], ◌∷◌}
use Rattle.std.specs.Bool.{beq}
use Rattle.std.specs.List.{list_any, All}
use Rattle.sat_base.specs.declared.literal.Var.{Var}
use Rattle.sat_base.specs.declared.literal.SatLit.{SatLit}

-- the literal on a variable, with a sign
abbrev pub literal : Var → Bool → SatLit
literal v sign = record { var = v; positive = sign }

-- the literal that is true where the variable is, and the one that is true where it is not
abbrev pub positive : Var → SatLit
positive v = literal v true

abbrev pub negative : Var → SatLit
negative v = literal v false

-- the literal on the same variable with the other sign
abbrev pub negated : SatLit → SatLit
negated l = literal l.var (not l.positive)

-- whether two variables are one
abbrev pub same_var : Var → Var → Bool
same_var v w = v.0 == w.0

-- whether two literals are one
abbrev pub same_literal : SatLit → SatLit → Bool
same_literal l m = same_var l.var m.var && beq l.positive m.positive

-- whether the literal is in the list
abbrev pub holds : List SatLit → SatLit → Bool
holds literals l = list_any (same_literal l) literals

-- whether the variable stands in the list, with either sign
abbrev pub mentions_variable : List SatLit → Var → Bool
mentions_variable literals v = list_any (λ l. same_var v l.var) literals

-- no variable stands in the list twice, with one sign or with both
abbrev pub HoldsNoVariableTwice : List SatLit → Type 0
HoldsNoVariableTwice [] = Unit {0}
HoldsNoVariableTwice (l ∷ literals) = (mentions_variable literals l.var ≡ false) × HoldsNoVariableTwice literals

-- two clauses are alike as sets: they hold the same literals
abbrev pub IsAlike : List SatLit → List SatLit → Type 0
IsAlike a b = (l : SatLit) → holds a l ≡ holds b l

-- each variable of the list has a number below n
abbrev pub IsOver : ℕ → List SatLit → Type 0
IsOver n literals = All (λ l. l.var.0 < n) literals
