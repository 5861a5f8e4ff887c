-- What the reading finds at the front of bytes.
use Rattle.std.specs.Prelude.{◌≡◌, ℕ, ◌<◌, List, [], length}
use Rattle.thf_lex.specs.declared.piece.Piece.{Piece}
use Rattle.thf_lex.specs.declared.piece.Piece.TheVariants.{Gap, Word, Bad, End}
use Rattle.thf_grammar.specs.Longest.{IsLongestToken, IsLongestGap, BeginsNothing}

-- the piece is what the bytes begin with
abbrev pub IsFirst : List ℕ → Piece → Type 0
IsFirst bytes (Gap n) = (0 < n) × IsLongestGap bytes n
IsFirst bytes (Word kind n) = (0 < n) × IsLongestToken kind bytes n
IsFirst bytes Bad = (0 < length bytes) × BeginsNothing bytes
IsFirst bytes End = bytes ≡ []
