-- Limits.
use Rattle.std.specs.Prelude.{ℕ}

-- how many bytes the files of a problem may have together, and a mode file and a text each
abbrev pub byte_limit : ℕ
byte_limit = 16777216
