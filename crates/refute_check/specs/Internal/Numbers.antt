-- Numbers of terms: their places in a list.
use Rattle.std.specs.Prelude.{ℕ, suc, List, [], ◌∷◌, Option, Some, None, option_map, if◌then◌else◌}
use Rattle.stt_core.specs.Lambda.{Lambda}
use Rattle.stt_core.specs.SameTerm.{same_term}

-- the place of a term in the list, where it is one of it
abbrev pub number_in : List Lambda → Lambda → Option ℕ
number_in [] t = None
number_in (u ∷ us) t = if same_term u t then Some 0 else option_map (λ n. suc n) (number_in us t)
