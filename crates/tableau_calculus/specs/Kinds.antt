-- Kinds of literals, and lists of literals without repeats.
use Rattle.std.specs.Prelude.{Bool, true, false, not, ◌&&◌, List, [], ◌∷◌, ◌++◌, if◌then◌else◌}
use Rattle.std.specs.List.{list_any}
use Rattle.stt_core.specs.SameTerm.{same_term}
use Rattle.tableau_calculus.specs.Literals.{Literal, opposite}

-- A kind of literals: the negation of each, and whether two of them are the same.
pub record Kind (L : Type 0) : Type 0 where
  pub opposite : L → L
  pub same : L → L → Bool

-- whether the literal is one of the list
abbrev pub has : {L : Type 0} → Kind L → List L → L → Bool
has kind ls l = list_any (kind.same l) ls

-- the list with each of the further literals, in order, that isn't in it yet
abbrev pub added : {L : Type 0} → Kind L → List L → List L → List L
added kind ls [] = ls
added kind ls (k ∷ ks) = added kind (if has kind ls k then ls else ls ++ k ∷ []) ks

abbrev pub same_sign : Bool → Bool → Bool
same_sign true b = b
same_sign false b = not b

-- whether two literals are the same
abbrev pub same_signed : Literal → Literal → Bool
same_signed l k = same_sign l.positive k.positive && same_term l.atom k.atom

-- the literals of the calculus
abbrev pub formulas : Kind Literal
formulas = record { opposite = opposite; same = same_signed }
