-- The head of a node under which literals are kept.
use Rattle.std.specs.Prelude.{◌≡◌, Bool, false, List, [], ◌∷◌, Option, Some, None, if◌then◌else◌}
use Rattle.stt_core.specs.Lambda.{Lambda, constant}
use Rattle.sat_base.specs.declared.literal.SatLit.{SatLit}
use Rattle.term_bank.specs.Shape.{Shape, abstraction, spine}
use Rattle.mating_rules.specs.Noted.{Signed, kept_under, pairs}
use Rattle.mating_rules.specs.Internal.Groups.{Keeps}

abbrev pub is_pairing : Lambda → Bool
is_pairing (constant c) = pairs c
is_pairing h = false

-- the head, where the node has arguments and formulas with this head may have partners
abbrev pub pairing_head : Shape → Option Lambda
pairing_head (abstraction a i) = None
pairing_head (spine h []) = None
pairing_head (spine h (i ∷ is)) = if is_pairing h then Some h else None

-- the literals of a sign under the head, where there is one
abbrev pub kept_where : Option Lambda → Bool → List (Lambda × Signed) → List SatLit
kept_where None sign heads = []
kept_where (Some h) sign heads = kept_under h sign heads

-- a literal has come under the head, where there is one
abbrev pub KeepsWhere : Option Lambda → SatLit → List (Lambda × Signed) → List (Lambda × Signed) → Type 0
KeepsWhere None l old new = new ≡ old
KeepsWhere (Some h) l old new = Keeps h l old new
