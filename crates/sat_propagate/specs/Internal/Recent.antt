-- What contracts say of the clauses that were learned last.
use Rattle.std.specs.Prelude.{◌≡◌, ◌++◌, ◌*◌, ◌/◌, ◌%◌, ◌^◌, ℕ, List, [], ◌∷◌, Some, slice_get, slice_index_or}
use Rattle.std.specs.List.{All}
use Rattle.std.specs.Int.Bits.{bit_and, bit_or}
use Rattle.sat_base.specs.declared.literal.SatLit.{SatLit}
use Rattle.sat_laws.specs.Internal.Packing.{packed}
use Rattle.sat_propagate.specs.declared.recent.Block.{Block}

-- the bit of a literal, one of 64: its number is spread by a multiplication, of which six bits are taken
abbrev pub literal_bit : SatLit → ℕ
literal_bit l = 2 ^ (packed l * 2654435761 % 2 ^ 64 / 2 ^ 26 % 64)

-- the signature of a clause: the bits of its literals
abbrev pub signature : List SatLit → ℕ
signature [] = 0
signature (l ∷ ls) = bit_or (literal_bit l) (signature ls)

-- a clause is among those that are kept, with all of these bits: eight clauses have one block, of the bits that they don't have
pub record HasBits (blocks : List Block) (clauses : List ℕ) (bits n : ℕ) : Type 0 where
  pub place : ℕ
  pub block : Block
  pub clause : slice_get clauses place ≡ Some n
  pub beside : slice_get blocks (place / 8) ≡ Some block
  pub bits_are_there : bit_and bits (slice_index_or block.absent (place % 8) 0) ≡ 0

-- a list is another one with some clauses behind it that are kept with all of these bits
pub record AppendsCovered (blocks : List Block) (clauses : List ℕ) (bits : ℕ) (before after : List ℕ) : Type 0 where
  pub more : List ℕ
  pub appended : after ≡ before ++ more
  pub covered : All (λ n. HasBits blocks clauses bits n) more
