-- The clauses of choices from an instance's alternatives.
use Rattle.std.specs.Prelude.{not, List, [], ◌∷◌, ◌++◌, map, filter}
use Rattle.std.specs.List.{flat_map}
use Rattle.sat_base.specs.declared.literal.SatLit.{SatLit}
use Rattle.search_spec.specs.Clauses.{is_tautology, clause_of}
use Rattle.search_spec.specs.Numbered.{numbers}

abbrev pub clauses_from : List SatLit → List (List SatLit) → List (List SatLit)
clauses_from principals chosen = filter (λ clause. not (is_tautology numbers clause)) (map (clause_of numbers principals) chosen)

-- the choices that begin with what is chosen and go on with alternatives
abbrev pub choices_after : List SatLit → List (List SatLit) → List (List SatLit)
choices_after chosen [] = chosen ∷ []
choices_after chosen (a ∷ as') = flat_map (λ l. choices_after (chosen ++ l ∷ []) as') a
