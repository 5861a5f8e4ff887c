-- A function over finite sets as a number: its values are the number's digits.
use Rattle.std.specs.Prelude.{ℕ, zero, suc, ◌+◌, ◌*◌, ◌/◌, ◌%◌, ◌^◌}

-- digit x of f in base b
abbrev pub entry : ℕ → ℕ → ℕ → ℕ
entry b f x = (f / b ^ x) % b

-- the number whose digits in base b are g 0, g 1 and so on, n of them
abbrev pub table : ℕ → ℕ → (ℕ → ℕ) → ℕ
table b zero g = 0
table b (suc n) g = table b n g + g n * b ^ n
