-- How a line is read. Contracts of public calls speak of the grammar alone.
use Rattle.std.specs.Prelude.{ℕ, ◌==◌, ◌&&◌, not, Bool, true, false, List, [], ◌∷◌, Option, Some, None, if◌then◌else◌}
use Rattle.outside.specs.Fronts.{front, behind_front}
use Rattle.outside.specs.Decimal.{is_digit, is_decimal}
use Rattle.mode_file.specs.Internal.Fronts.{is_space}

abbrev pub has_no_bytes : List ℕ → Bool
has_no_bytes [] = true
has_no_bytes (c ∷ cs) = false

-- nothing, or one carriage return
abbrev pub is_ending : List ℕ → Bool
is_ending [] = true
is_ending (c ∷ []) = c == 13
is_ending (c ∷ d ∷ ds) = false

-- what follows the spaces at the front
abbrev pub behind_spaces : List ℕ → List ℕ
behind_spaces bytes = behind_front is_space bytes

-- the digits of a number, behind some spaces and before any spaces and an ending
abbrev pub digits_in : List ℕ → Option (List ℕ)
digits_in bytes =
    if not (has_no_bytes (front is_space bytes)) && is_decimal (front is_digit (behind_spaces bytes)) && is_ending
    (behind_spaces (behind_front is_digit (behind_spaces bytes)))
    then Some (front is_digit (behind_spaces bytes)) else None
