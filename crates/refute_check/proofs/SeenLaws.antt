-- Numbers that are noted for literals of a text.
use Rattle.std.proofs.Common.{◌∙◌, Some, sym, subst}
use Rattle.sat_base.specs.declared.literal.SatLit.{SatLit}
use Rattle.tableau_calculus.specs.Literals.{Literal, IsLiteral}
use Rattle.refute_print.specs.Named.{Names}
use Rattle.refute_check.specs.Numbered.{numbered_literal}
use Rattle.refute_check.specs.Internal.Seen.{IsSeen}
use Rattle.refute_check.specs.Internal.Shared.{IsGoodShared, ExtendsShared, NumbersLiteral}
use Rattle.refute_check.specs.declared.seen.Noted.{Noted}
use Rattle.refute_check.specs.declared.seen.Seen.{Seen}
use Rattle.refute_check.specs.declared.shared.Shared.{Shared}
use Rattle.refute_check.proofs.SharedLaws.{each_weaker, extends_scope, extends_number, extends_literal}

abbrev pub IsRightNote : Names → Shared → Noted → Type 0
IsRightNote names s n = NumbersLiteral s (numbered_literal names n.lit.now) (Some n.number)

-- the number of a literal stays
number_stays : (old new : Shared) → IsGoodShared old → ExtendsShared old new → (l : Literal) (n : SatLit) → NumbersLiteral old l (Some n) → NumbersLiteral new l (Some n)
number_stays old new good e l n h = (subst (λ s. IsLiteral s l) (sym (extends_scope old new e)) h.0, extends_number old new e n h.1, extends_literal old new e good n h.1 ∙ h.2)

pub seen_stays : (names : Names) (old new : Shared) (seen : Seen) → IsGoodShared old → ExtendsShared old new → IsSeen names old seen → IsSeen names new seen
seen_stays names old new seen good e h =
    each_weaker (IsRightNote names old) (IsRightNote names new) (λ n k. number_stays old new good e (numbered_literal names n.lit.now) n.number k) seen.items.items h
