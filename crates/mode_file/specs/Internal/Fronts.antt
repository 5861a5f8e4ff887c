-- What is behind a prefix of bytes.
use Rattle.std.specs.Prelude.{ℕ, ◌==◌, not, Bool}
use Rattle.mode_file.specs.declared.bytes.ByteClass.{ByteClass}
use Rattle.mode_file.specs.declared.bytes.ByteClass.TheVariants.{InLine, InWord, Space, Digit}
use Rattle.mode_file.specs.Lines.{is_blank}
use Rattle.outside.specs.Decimal.{is_digit}

abbrev pub is_space : ℕ → Bool
is_space c = c == 32

-- what stands in a line; in a word, which a blank byte ends; a space; a digit
abbrev pub is_in : ByteClass → ℕ → Bool
is_in InLine c = not (c == 10)
is_in InWord c = not (is_blank c)
is_in Space c = is_space c
is_in Digit c = is_digit c
