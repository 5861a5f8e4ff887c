-- The names of a signature by their places.
use Rattle.std.proofs.Common.{◌≡◌, ◌<◌, ℕ, List, [], length, slice_get, option_map, unwrap_or, Some, sym, ap, ◌∙◌, arith}
use Rattle.std.proofs.lemmas.List.{length-map}
use Rattle.std.proofs.lemmas.Option.{slice_get-map}
use Rattle.stt_core.specs.TypedName.{TypedName}
use Rattle.thf_names.specs.Names.{name_text}
use Rattle.refute_print.specs.Named.{names_of, name_numbered}

-- a place of a name is one of a constant
pub place_of_name : (bases : List (List ℕ)) (consts : List TypedName) (k : ℕ) → k < length (names_of bases consts).constants → k < length consts
place_of_name bases consts k h = omega (arith, h, length-map consts (λ c. c.name))

-- the text of the name at a place
pub name_text-at : (bases : List (List ℕ)) (consts : List TypedName) (k : ℕ) (name : List ℕ) → option_map (λ c. c.name) (slice_get consts k) ≡ Some name → name_text name ≡ name_text (name_numbered (names_of bases consts).constants k)
name_text-at bases consts k name at = ap (λ o. name_text (unwrap_or o [])) (sym (slice_get-map (λ c. c.name) consts k ∙ at))
