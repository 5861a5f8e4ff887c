-- After how many conflicts to start again from the root. Only private contracts use it.
use Rattle.std.specs.Prelude.{◌==◌, ◌+◌, ◌-◌, ◌*◌, ◌%◌, ◌^◌, ℕ, Bool, nat_le, min, bit_and}
use Rattle.sat_core.specs.declared.restarts.Restarts.{Restarts}

-- a number, or the greatest one of eight bytes where that is less
abbrev pub capped : ℕ → ℕ
capped n = min n (2 ^ 64 - 1)

-- the lowest bit of a number of eight bytes
abbrev pub low_bit : ℕ → ℕ
low_bit n = bit_and n ((2 ^ 64 - n) % 2 ^ 64)

-- whether one conflict more is enough
abbrev pub is_restart : Restarts → Bool
is_restart r = nat_le (capped (r.factor * 1024)) (capped (r.met + 1))

-- whether the round ends with this factor
abbrev pub is_round_over : Restarts → Bool
is_round_over r = low_bit r.round == r.factor
