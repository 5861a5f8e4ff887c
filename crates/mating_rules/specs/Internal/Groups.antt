-- Literals by heads and signs.
use Rattle.std.specs.Prelude.{◌≡◌, ◌&&◌, ◌++◌, ℕ, suc, Bool, false, List, [], ◌∷◌, if◌then◌else◌}
use Rattle.stt_core.specs.Lambda.{Lambda}
use Rattle.stt_core.specs.SameTerm.{same_term}
use Rattle.tableau_calculus.specs.Kinds.{same_sign}
use Rattle.sat_base.specs.declared.literal.SatLit.{SatLit}
use Rattle.mating_rules.specs.Noted.{Signed, kept_under}

-- the literals with a further one at the end of those of its sign
abbrev pub with_signed : SatLit → Signed → Signed
with_signed l s = if l.positive then record s { positive = s.positive ++ l ∷ [] } else record s { negative = s.negative ++ l ∷ [] }

abbrev pub lone_literal : SatLit → Signed
lone_literal l = with_signed l (record { positive = []; negative = [] })

-- the place of the first group of the head, or the end
abbrev pub notes_place : Lambda → List (Lambda × Signed) → ℕ
notes_place h [] = 0
notes_place h (g ∷ gs) = if same_term h g.0 then 0 else suc (notes_place h gs)

-- no group has the head
abbrev pub IsNewGroup : Lambda → List (Lambda × Signed) → Type 0
IsNewGroup h [] = Unit {0}
IsNewGroup h (g ∷ gs) = (same_term h g.0 ≡ false) × IsNewGroup h gs

-- a literal has come under a head, behind those of its sign that were there, and the others are kept as they were
abbrev pub Keeps : Lambda → SatLit → List (Lambda × Signed) → List (Lambda × Signed) → Type 0
Keeps h l old new =
    (k : Lambda) (sign : Bool)
    → kept_under k sign new
    ≡ (if same_term k h && same_sign sign l.positive then kept_under k sign old ++ l ∷ [] else kept_under k sign old)
