-- Decimal numbers.
use Rattle.std.specs.Prelude.{ℕ, ◌+◌, ◌*◌, ◌-◌, ◌==◌, ◌&&◌, not, nat_le, Bool, false, List, [], ◌∷◌}
use Rattle.std.specs.List.{list_all}

-- a digit of ASCII
abbrev pub is_digit : ℕ → Bool
is_digit c = nat_le 48 c && nat_le c 57

-- digits, of which the first isn't 0 where there are several
abbrev pub is_decimal : List ℕ → Bool
is_decimal [] = false
is_decimal (c ∷ []) = is_digit c
is_decimal (c ∷ d ∷ ds) = not (c == 48) && list_all is_digit (c ∷ d ∷ ds)

-- the number that these digits write behind the digits of another number
abbrev pub number_from : ℕ → List ℕ → ℕ
number_from n [] = n
number_from n (c ∷ cs) = number_from (10 * n + (c - 48)) cs
