-- The grammar of schedules: lines that say nothing, and then blocks. A block is a line with its slice, and behind it the lines of a mode,
-- up to the next line of a slice.
use Rattle.std.specs.Prelude.{◌≡◌, ◌≢◌, ◌⊎◌, ℕ, ◌+◌, ◌<◌, ◌≤◌, Bool, true, false, List, [], ◌∷◌, ◌++◌, length, codes}
use Rattle.std.specs.Str.{bytes_eq}
use Rattle.mode_file.specs.declared.refused.ModeRefused.{ModeRefused}
use Rattle.mode_file.specs.Grammar.{says_nothing, first_word, Assigns, States}
use Rattle.mode_file.specs.Refusals.{Refuses}
use Rattle.mode_schedule.specs.declared.Block.{Block}

-- the first word of a line of a slice
abbrev pub slice_word : List ℕ
slice_word = codes "slice"

abbrev pub greatest_slice : ℕ
greatest_slice = 1000000

abbrev pub most_blocks : ℕ
most_blocks = 16

abbrev pub is_slice_line : List ℕ → Bool
is_slice_line line = bytes_eq (first_word line) slice_word

-- a line that assigns a number to the word
abbrev pub HasSlice : List ℕ → ℕ → Type 0
HasSlice line n = Assigns line slice_word n

-- a line of a slice within its range
pub record IsSlice (line : List ℕ) (n : ℕ) : Type 0 where
  pub has : HasSlice line n
  pub some : 0 < n
  pub in_range : n ≤ greatest_slice

-- no line is that of a slice
abbrev pub AreInBlock : List (List ℕ) → Type 0
AreInBlock [] = Unit {0}
AreInBlock (line ∷ lines) = (is_slice_line line ≡ false) × AreInBlock lines

-- the first line is that of a slice, where there is one
abbrev pub BeginWithSlice : List (List ℕ) → Type 0
BeginWithSlice [] = Unit {0}
BeginWithSlice (line ∷ lines) = is_slice_line line ≡ true

-- each line says nothing
abbrev pub AreSilent : List (List ℕ) → Type 0
AreSilent [] = Unit {0}
AreSilent (line ∷ lines) = (says_nothing line ≡ true) × AreSilent lines

-- a line with the slice of the block, and lines that state its mode
pub record IsBlock (lines : List (List ℕ)) (block : Block) : Type 0 where
  pub first : List ℕ
  pub body : List (List ℕ)
  pub lines_are : lines ≡ first ∷ body
  pub slice : IsSlice first block.slice
  pub inside : AreInBlock body
  pub mode : States body block.mode

-- lines of blocks, one behind the other
abbrev pub AreBlocks : List (List ℕ) → List Block → Type 0
AreBlocks lines [] = lines ≡ []
AreBlocks lines (block ∷ blocks) = (own rest : List (List ℕ)) × (lines ≡ own ++ rest) × IsBlock own block × AreBlocks rest blocks

-- lines that say nothing, and then those of these blocks, of which there aren't more than there may be
pub record HaveBlocks (lines : List (List ℕ)) (blocks : List Block) : Type 0 where
  pub preface : List (List ℕ)
  pub own : List (List ℕ)
  pub lines_are : lines ≡ preface ++ own
  pub silent : AreSilent preface
  pub are_blocks : AreBlocks own blocks
  pub room : length blocks ≤ most_blocks

-- the lines state these blocks, of which there are some
pub record StatesBlocks (lines : List (List ℕ)) (blocks : List Block) : Type 0 where
  pub have : HaveBlocks lines blocks
  pub some : blocks ≢ []

-- Behind lines that say nothing, with no block before it, the line of this number, counted from 1, is the first one that says something. It
-- isn't that of a slice, and this holds of it.
pub record IsBadBefore (lines : List (List ℕ)) (number : ℕ) (Why : List ℕ → Type 0) : Type 0 where
  pub before : List (List ℕ)
  pub bad : List ℕ
  pub behind : List (List ℕ)
  pub lines_are : lines ≡ before ++ (bad ∷ behind)
  pub silent : AreSilent before
  pub says : says_nothing bad ≡ false
  pub is_other : is_slice_line bad ≡ false
  pub why : Why bad
  pub number_is : number ≡ length before + 1

-- the lines say nothing, and this is the number behind the last one
pub record HaveNoBlock (lines : List (List ℕ)) (number : ℕ) : Type 0 where
  pub silent : AreSilent lines
  pub number_is : number ≡ length lines + 1

-- behind lines that have some blocks, the line of this number is that of a slice, and this holds of it and of the blocks
pub record IsBadSlice (lines : List (List ℕ)) (number : ℕ) (Why : List ℕ → List Block → Type 0) : Type 0 where
  pub before : List (List ℕ)
  pub bad : List ℕ
  pub behind : List (List ℕ)
  pub blocks : List Block
  pub lines_are : lines ≡ before ++ (bad ∷ behind)
  pub have : HaveBlocks before blocks
  pub is_slice : is_slice_line bad ≡ true
  pub why : Why bad blocks
  pub number_is : number ≡ length before + 1

-- Behind lines that have some blocks stands a line of a slice, which may begin one more. Of the lines behind it, up to the next line of a
-- slice, one is refused as a mode's, and this is its number among all lines.
pub record IsBadInBlock (lines : List (List ℕ)) (number : ℕ) (refused : ℕ → ModeRefused) : Type 0 where
  pub before : List (List ℕ)
  pub first : List ℕ
  pub body : List (List ℕ)
  pub behind : List (List ℕ)
  pub blocks : List Block
  pub n : ℕ
  pub line : ℕ
  pub lines_are : lines ≡ before ++ (first ∷ (body ++ behind))
  pub have : HaveBlocks before blocks
  pub room : length blocks < most_blocks
  pub slice : IsSlice first n
  pub inside : AreInBlock body
  pub ends : BeginWithSlice behind
  pub refuses : Refuses body (refused line)
  pub number_is : number ≡ length before + 1 + line

-- a line of a slice behind as many blocks as there may be
abbrev pub IsTooMany : List ℕ → List Block → Type 0
IsTooMany line blocks = most_blocks ≤ length blocks

-- there is room for a block, and the line has no number
abbrev pub HasNoSlice : List ℕ → List Block → Type 0
HasNoSlice line blocks = (length blocks < most_blocks) × ((n : ℕ) → HasSlice line n → ⊥)

-- there is room for a block, and the line's number isn't within its range
abbrev pub IsOutOfSlices : List ℕ → List Block → Type 0
IsOutOfSlices line blocks = (length blocks < most_blocks) × ((n : ℕ) × HasSlice line n × ((n ≡ 0) ⊎ (greatest_slice < n)))
