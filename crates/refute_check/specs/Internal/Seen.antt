-- Literals of a text that have got their numbers.
use Rattle.std.specs.Prelude.{◌≡◌, Some, Contains}
use Rattle.sat_base.specs.declared.literal.SatLit.{SatLit}
use Rattle.tableau_calculus.specs.Each.{Each}
use Rattle.refute_print.specs.Named.{Names}
use Rattle.refute_print.specs.Trees.{LiteralTree}
use Rattle.refute_check.specs.Numbered.{numbered_literal}
use Rattle.refute_check.specs.Internal.Shared.{NumbersLiteral}
use Rattle.refute_check.specs.declared.seen.Noted.{Noted}
use Rattle.refute_check.specs.declared.seen.Seen.{Seen}
use Rattle.refute_check.specs.declared.shared.Shared.{Shared}

-- each literal has the number that is noted for it
abbrev pub IsSeen : Names → Shared → Seen → Type 0
IsSeen names s seen = Each (λ (n : Noted). NumbersLiteral s (numbered_literal names n.lit.now) (Some n.number)) seen.items.items

-- this number is noted for the literal
abbrev pub IsNoted : Seen → LiteralTree → SatLit → Type 0
IsNoted seen l number = (n : Noted) × Contains seen.items.items n × (n.lit.now ≡ l) × (n.number ≡ number)
