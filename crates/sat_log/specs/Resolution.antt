-- Resolution of two clauses. Source: Robinson, A machine-oriented logic based on the resolution principle, 1965.
use Rattle.std.specs.Prelude.{◌≡◌, IsTrue, not, ◌&&◌, if◌then◌else◌, List, [], ◌∷◌, ◌++◌, Option, Some, None, filter}
use Rattle.sat_base.specs.declared.literal.Var.{Var}
use Rattle.sat_base.specs.declared.literal.SatLit.{SatLit}
use Rattle.sat_base.specs.Literal.{positive, negative, negated, same_literal, holds}

-- the list without this literal
abbrev pub without_literal : SatLit → List SatLit → List SatLit
without_literal l literals = filter (λ m. not (same_literal l m)) literals

-- each literal once, at its first place
abbrev pub each_once : List SatLit → List SatLit
each_once [] = []
each_once (l ∷ literals) = l ∷ without_literal l (each_once literals)

-- no literal stands in the list twice
abbrev pub HasNoRepeats : List SatLit → Type 0
HasNoRepeats literals = each_once literals ≡ literals

-- the resolvent on v of a, which holds v, and b, which holds its negation: a without v and b without its negation, without repeats
abbrev pub resolvent : Var → List SatLit → List SatLit → List SatLit
resolvent v a b = each_once (without_literal (positive v) a ++ without_literal (negative v) b)

-- the resolvent on v of two clauses, where one holds v and the other its negation. Where both hold both, the first one gives v
abbrev pub resolved : Var → List SatLit → List SatLit → Option (List SatLit)
resolved v a b =
    if holds a (positive v) && holds b (negative v) then Some (resolvent v a b)
    else (if holds a (negative v) && holds b (positive v) then Some (resolvent v b a) else None)

-- the two clauses clash on v alone: no other literal of a has its negation in b
abbrev pub ClashesOnlyOn : Var → List SatLit → List SatLit → Type 0
ClashesOnlyOn v a b = (l : SatLit) → IsTrue (holds a l) → IsTrue (holds b (negated l)) → l ≡ positive v
