-- Holes among partial terms.
use Rattle.std.specs.Prelude.{ℕ, List, [], ◌∷◌, Option, Some, None, option_map}
use Rattle.stt_core.specs.SimpleType.{SimpleType}
use Rattle.search_spec.specs.Partial.{Partial, Hole, first_hole, with_filling, or_else}

-- the base type of the first hole of a partial term, and of several
abbrev pub base_in : Partial → Option ℕ
base_in p = option_map (λ hole. hole.base) (first_hole [] p)

abbrev pub base_among : List Partial → Option ℕ
base_among [] = None
base_among (p ∷ ps) = or_else (base_in p) (base_among ps)

-- the first hole of several partial terms
abbrev pub first_among : List SimpleType → List Partial → Option Hole
first_among ctx [] = None
first_among ctx (p ∷ ps) = or_else (first_hole ctx p) (first_among ctx ps)

-- a partial term after its first hole is filled, where there is a filler, with what is left of the filler
abbrev pub placed_partial : Partial → Partial → Option Partial → Partial × Option Partial
placed_partial r p (Some q) = (q, None)
placed_partial r p None = (p, Some r)

abbrev pub filling : Option Partial → Partial → Partial × Option Partial
filling (Some r) p = placed_partial r p (with_filling r p)
filling None p = (p, None)

-- the same of several partial terms
abbrev pub filling_all : Option Partial → List Partial → List Partial × Option Partial
filling_all filler [] = ([], filler)
filling_all filler (p ∷ ps) =
    let first = filling filler p in
    let later = filling_all first.1 ps in
    (first.0 ∷ later.0, later.1)
