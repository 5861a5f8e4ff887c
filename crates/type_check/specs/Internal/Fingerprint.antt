-- The number by which a type is sought among those that are kept.
use Rattle.std.specs.Prelude.{ℕ, ◌+◌, ◌*◌, ◌%◌, ◌^◌}
use Rattle.stt_core.specs.SimpleType.{SimpleType, base, arrow}

-- a number of 64 bits, which few types share
abbrev pub fingerprint : SimpleType → ℕ
fingerprint (base n) = n
fingerprint (arrow a b) = (((fingerprint a * 1000003) % 2 ^ 64 + fingerprint b) % 2 ^ 64 * 31) % 2 ^ 64
