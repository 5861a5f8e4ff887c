-- The grammar of mode files, line by line.
use Rattle.std.specs.Prelude.{◌≡◌, ◌⊎◌, ℕ, suc, ◌+◌, ◌^◌, ◌<◌, ◌≤◌, ◌||◌, not, nat_eq, Bool, true, false, List, [], ◌∷◌, ◌++◌, length, replicate, codes, Some, None, IsSome}
use Rattle.std.specs.List.{list_all, starts_with}
use Rattle.mode_file.specs.declared.Mode.{Mode}
use Rattle.mode_file.specs.declared.given.Given.{Given}
use Rattle.mode_file.specs.declared.keys.Key.{Key}
use Rattle.mode_file.specs.declared.number.NumberRefused.{NumberRefused}
use Rattle.mode_file.specs.declared.number.NumberRefused.TheVariants.{Missing, TooGreat}
use Rattle.mode_file.specs.declared.refused.Cause.{Cause}
use Rattle.mode_file.specs.declared.refused.Cause.TheVariants.{UnknownKey, Twice, BadNumber, OutOfRange}
use Rattle.mode_file.specs.Keys.{key_name, greatest, key_of}
use Rattle.mode_file.specs.Given.{nothing_given, number_given, with_number, mode_of}
use Rattle.mode_file.specs.Lines.{is_blank}
use Rattle.outside.specs.Fronts.{front}
use Rattle.outside.specs.Decimal.{is_decimal, number_from}

-- whether a line says nothing: it is blank, or a comment
abbrev pub says_nothing : List ℕ → Bool
says_nothing line = list_all is_blank line || starts_with nat_eq line (codes "%")

-- what stands before the first blank byte
abbrev pub first_word : List ℕ → List ℕ
first_word line = front (λ c. not (is_blank c)) line

-- a line of a name, some spaces, a number, any spaces, and at most one carriage return
pub record Assigns (line name : List ℕ) (n : ℕ) : Type 0 where
  pub gap : ℕ
  pub digits : List ℕ
  pub spaces : ℕ
  pub ending : List ℕ
  pub line_is : line ≡ name ++ (replicate (suc gap) 32 ++ (digits ++ (replicate spaces 32 ++ ending)))
  pub decimal : is_decimal digits ≡ true
  pub number_is : number_from 0 digits ≡ n
  pub ends : (ending ≡ []) ⊎ (ending ≡ 13 ∷ [])

-- why no number is read that a line assigns to its first word: it assigns none, or one that is too great for 64 bits
abbrev pub HasNoNumber : List ℕ → NumberRefused → Type 0
HasNoNumber line Missing = (n : ℕ) → Assigns line (first_word line) n → ⊥
HasNoNumber line TooGreat = (n : ℕ) × Assigns line (first_word line) n × (2 ^ 64 ≤ n)

-- a line that assigns a number to a key
abbrev pub Sets : List ℕ → Key → ℕ → Type 0
Sets line key n = Assigns line (key_name key) n

-- a line that gives a number within its range to a key that has none yet
pub record Gives (before : Given) (line : List ℕ) (after : Given) : Type 0 where
  pub key : Key
  pub n : ℕ
  pub sets : Sets line key n
  pub is_new : number_given before key ≡ None
  pub in_range : n ≤ greatest key
  pub after_is : after ≡ with_number before key n

-- a good line, which says nothing or gives a number
abbrev pub IsGoodLine : Given → List ℕ → Given → Type 0
IsGoodLine before line after = ((says_nothing line ≡ true) × (after ≡ before)) ⊎ Gives before line after

-- good lines, one after the other
abbrev pub AreGoodLines : Given → List (List ℕ) → Given → Type 0
AreGoodLines before [] after = after ≡ before
AreGoodLines before (line ∷ lines) after = (between : Given) × (IsGoodLine before line between × AreGoodLines between lines after)

-- the line's first word is a key that has a number
pub record IsGivenTwice (given : Given) (line : List ℕ) : Type 0 where
  pub key : Key
  pub named : key_of (first_word line) ≡ Some key
  pub has : IsSome (number_given given key)

-- the line's first word is a key that has no number, and the line isn't one that gives it a number
pub record HasBadNumber (given : Given) (line : List ℕ) : Type 0 where
  pub key : Key
  pub named : key_of (first_word line) ≡ Some key
  pub is_new : number_given given key ≡ None
  pub no_number : (n : ℕ) → Sets line key n → ⊥

-- the line gives a key that has no number one above its range
pub record IsOutOfRange (given : Given) (line : List ℕ) : Type 0 where
  pub key : Key
  pub n : ℕ
  pub sets : Sets line key n
  pub is_new : number_given given key ≡ None
  pub above : greatest key < n

-- why a line is bad that says something, behind lines that gave these numbers
abbrev pub IsBadFor : Given → List ℕ → Cause → Type 0
IsBadFor given line UnknownKey = key_of (first_word line) ≡ None
IsBadFor given line Twice = IsGivenTwice given line
IsBadFor given line BadNumber = HasBadNumber given line
IsBadFor given line OutOfRange = IsOutOfRange given line

-- the lines state this mode
pub record States (lines : List (List ℕ)) (mode : Mode) : Type 0 where
  pub given : Given
  pub good : AreGoodLines nothing_given lines given
  pub mode_is : mode ≡ mode_of given

-- the line of this number, counted from 1, is the first bad one, for this cause
pub record IsFirstBad (lines : List (List ℕ)) (number : ℕ) (cause : Cause) : Type 0 where
  pub before : List (List ℕ)
  pub bad : List ℕ
  pub behind : List (List ℕ)
  pub given : Given
  pub lines_are : lines ≡ before ++ (bad ∷ behind)
  pub good : AreGoodLines nothing_given before given
  pub says : says_nothing bad ≡ false
  pub cause_is : IsBadFor given bad cause
  pub number_is : number ≡ length before + 1
