-- The literals with which a literal is mated or confronted.
use Rattle.std.specs.Prelude.{Bool, false, not, ◌&&◌, ◌||◌, List, map, filter, if◌then◌else◌}
use Rattle.stt_core.specs.SimpleType.{SimpleType, same_type}
use Rattle.stt_core.specs.Lambda.{equality, Lambda, constant, app}
use Rattle.stt_core.specs.SameTerm.{same_term}
use Rattle.tableau_calculus.specs.Literals.{Literal}
use Rattle.tableau_calculus.specs.Kinds.{same_sign}
use Rattle.search_spec.specs.Spine.{same_head}
use Rattle.search_spec.specs.State.{Command, mate, confront}

-- the processed literals of the other sign that pass a test, in order
abbrev pub partners : (Lambda → Bool) → Literal → List Literal → List Literal
partners test l noted = filter (λ m. not (same_sign l.positive m.positive) && test m.atom) noted

-- whether the term is an equation on this type
abbrev pub equates_on : SimpleType → Lambda → Bool
equates_on a (app (app (constant (equality b)) s) t) = same_type a b
equates_on a t = false

-- whether the term is an equation with equal sides
abbrev pub has_equal_sides : Lambda → Bool
has_equal_sides (app (app (constant (equality b)) s) t) = same_term s t
has_equal_sides t = false

-- the command for two literals of opposite signs, the positive one first
abbrev pub positive_first : (Literal → Literal → Command) → Literal → Literal → Command
positive_first command l m = if l.positive then command l m else command m l

-- the literal is to be mated with each processed one of the other sign that has its head
abbrev pub matings : Literal → List Literal → List Command
matings l noted = map (positive_first mate l) (partners (same_head l.atom) l noted)

-- an equation on a type, or its negation, is to be confronted with each processed one of the other sign; a negated one has two different
-- sides
abbrev pub confrontations : SimpleType → Literal → List Literal → List Command
confrontations a l noted =
    map (positive_first confront l) (partners (λ t. equates_on a t && (not l.positive || not (has_equal_sides t))) l noted)
