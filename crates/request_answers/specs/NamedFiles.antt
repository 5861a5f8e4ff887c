-- What a file of one text states: that of a mode, of a schedule, of a refutation.
use Rattle.std.specs.Prelude.{◌≡◌, ◌<◌, ◌≤◌, ℕ, IsTrue, List, length, Option, Some, None}
use Rattle.outside.specs.Lines.{lines_of}
use Rattle.outside.specs.Limits.{byte_limit}
use Rattle.outside.specs.Seen.{Seen}

-- A file holds bytes with this property, and no more of them than it may have. They are those that are told, where they are told.
pub record OfFile (seen : Seen) (file : List ℕ) (P : List ℕ → Type 0) : Type 0 where
  pub bytes : List ℕ
  pub told_bytes : IsTrue seen.tells → seen.contents file ≡ Some bytes
  pub short : length bytes ≤ byte_limit
  pub holds : P bytes

-- a file holds more bytes than it may have
abbrev pub IsLongFile : Seen → List ℕ → Type 0
IsLongFile seen file = IsTrue seen.tells → (bytes : List ℕ) × (seen.contents file ≡ Some bytes) × (byte_limit < length bytes)

-- what the lines of a file state, or the standard where no file is named
abbrev pub IsStatedBy : {X : Type 0} → (List (List ℕ) → X → Type 0) → X → Seen → Option (List ℕ) → X → Type 0
IsStatedBy States standard seen None x = x ≡ standard
IsStatedBy States standard seen (Some file) x = OfFile seen file (λ bytes. States (lines_of bytes) x)

-- a file is named, and this is what its lines are refused with
abbrev pub IsRefusedBy : {X : Type 0} → (List (List ℕ) → X → Type 0) → Seen → Option (List ℕ) → X → Type 0
IsRefusedBy Refuses seen None x = ⊥
IsRefusedBy Refuses seen (Some file) x = OfFile seen file (λ bytes. Refuses (lines_of bytes) x)
