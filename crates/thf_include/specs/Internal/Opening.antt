-- The opening of one file.
use Rattle.std.specs.Prelude.{◌≡◌, ℕ, ◌<◌, ◌⊎◌, IsTrue, List, [], ◌∷◌, ◌++◌, length, Some}
use Rattle.outside.specs.Seen.{Seen}
use Rattle.thf_include.specs.declared.refused.GatherRefused.{GatherRefused}
use Rattle.thf_include.specs.declared.refused.GatherRefused.TheVariants.{Fault, TooLong, Syntax, Cycle, NoSuchName, TooMany, Memory}
use Rattle.thf_include.specs.Gathering.{IsWrongText}

-- a text that has more bytes than are left
pub record IsTooLong (seen : Seen) (name : List ℕ) (left : ℕ) : Type 0 where
  pub text : List ℕ
  pub told : IsTrue seen.tells → seen.contents name ≡ Some text
  pub longer : left < length text

-- the file of this name, which has the next number, isn't read: it has a fault, or more bytes than are left; or memory runs out, before
-- or after it is opened
abbrev pub IsReadRefusal : Seen → List ℕ → List (List ℕ) → List (List ℕ) → ℕ → GatherRefused → Type 0
IsReadRefusal seen name before after left (Fault file) = (file ≡ length before) × (after ≡ before ++ name ∷ [])
IsReadRefusal seen name before after left (TooLong file) = (file ≡ length before) × (after ≡ before ++ name ∷ []) × IsTooLong seen name left
IsReadRefusal seen name before after left Memory = (after ≡ before) ⊎ (after ≡ before ++ name ∷ [])
IsReadRefusal seen name before after left (Syntax file at) = ⊥
IsReadRefusal seen name before after left (Cycle file at) = ⊥
IsReadRefusal seen name before after left (NoSuchName file at) = ⊥
IsReadRefusal seen name before after left (TooMany file at) = ⊥

-- the text of the file with this number has no tree, by its token at a place
abbrev pub IsTextRefusal : List ℕ → ℕ → GatherRefused → Type 0
IsTextRefusal text number (Syntax file at) = (file ≡ number) × IsWrongText text at
IsTextRefusal text number Memory = Unit {0}
IsTextRefusal text number (Fault file) = ⊥
IsTextRefusal text number (TooLong file) = ⊥
IsTextRefusal text number (Cycle file at) = ⊥
IsTextRefusal text number (NoSuchName file at) = ⊥
IsTextRefusal text number (TooMany file at) = ⊥
