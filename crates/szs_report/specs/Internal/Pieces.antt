-- The pieces of a report, and how the writing of a text ends.
use Rattle.std.specs.Prelude.{ℕ, Bool, List, ◌++◌, codes, decimal, Result, MatchResult}
use Rattle.outside.specs.Writing.{Took, Stopped}
use Rattle.szs_report.specs.declared.piece.Piece.{Piece}
use Rattle.szs_report.specs.declared.piece.Piece.TheVariants.{Bytes, Number, NumberLine, Text}

abbrev pub piece_bytes : Piece → List ℕ
piece_bytes (Bytes bytes) = bytes.now
piece_bytes (Number n) = decimal n
piece_bytes (NumberLine word n) = word.now ++ (decimal n ++ codes "\n")
piece_bytes (Text text) = text.now

-- the sink took the whole text, or it failed before it had it
abbrev pub Writes : {S E : Type 0} → (S → Bool) → (S → List ℕ) → (S → ℕ) → S → S → List ℕ → Result (Unit {0}) E → Type 0
Writes tells written faults old new text r =
    MatchResult r (λ _. Took tells written faults old new text) (λ _. Stopped tells written faults old new text)
