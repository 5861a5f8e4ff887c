-- How a text is read: line by line.
use Rattle.std.specs.Prelude.{◌≡◌, ℕ, ◌+◌, ◌^◌, ◌≤◌, ◌==◌, nat_eq, not, Bool, true, false, List, [], ◌∷◌, ◌++◌, length, codes}
use Rattle.std.specs.List.{AllByRecursion, list_all, list_any, starts_with}
use Rattle.refute_print.specs.Trees.{RefutationTree}
use Rattle.refute_print.specs.Text.{text_lines, as_bytes}
use Rattle.refute_print.specs.Letters.{is_printable_name}
use Rattle.refute_print.specs.Limits.{IsWithinLimits, IsLine}

-- how the start line and the end line begin
abbrev pub start_mark : List ℕ
start_mark = codes "% SZS output start Refutation for "

abbrev pub end_mark : List ℕ
end_mark = codes "% SZS output end Refutation for "

abbrev pub is_start : List ℕ → Bool
is_start line = starts_with nat_eq line start_mark

abbrev pub is_end_mark : List ℕ → Bool
is_end_mark line = starts_with nat_eq line end_mark

abbrev pub IsTextName : List ℕ → Type 0
IsTextName w = is_printable_name w ≡ true

-- a refutation that has a text
pub record HasText (r : RefutationTree) : Type 0 where
  pub names : AllByRecursion IsTextName r.names
  pub rows : AllByRecursion IsWithinLimits r.rows
  pub row_numbers : length r.rows ≤ 2 ^ 32
  pub lines : AllByRecursion IsLine r.lines
  pub line_numbers : length r.lines ≤ 2 ^ 64

-- lines with which the text of some refutation begins
pub record IsFront (front : List (List ℕ)) : Type 0 where
  pub refutation : RefutationTree
  pub more : List (List ℕ)
  pub has_text : HasText refutation
  pub whole : front ++ more ≡ text_lines refutation

-- the lines before the start line, the first that begins so, and the lines behind it
pub record Starts (lines before behind : List (List ℕ)) : Type 0 where
  pub start : List ℕ
  pub are_lines : lines ≡ before ++ (start ∷ behind)
  pub none_before : list_any is_start before ≡ false
  pub starts : is_start start ≡ true

-- behind the start line stand the lines of the refutation's text and then the end line; what follows is passed over
pub record HoldsText (behind : List (List ℕ)) (r : RefutationTree) : Type 0 where
  pub last : List ℕ
  pub after : List (List ℕ)
  pub are_lines : behind ≡ text_lines r ++ (last ∷ after)
  pub has_text : HasText r
  pub ends : is_end_mark last ≡ true

-- lines that are the whole text of some refutation
pub record IsText (lines : List (List ℕ)) : Type 0 where
  pub refutation : RefutationTree
  pub has_text : HasText refutation
  pub whole : lines ≡ text_lines refutation

-- the line at this place behind the start line is the first with which no text begins; an end line is bad where no whole text stands
-- before it
pub record IsBadAt (behind : List (List ℕ)) (place : ℕ) : Type 0 where
  pub before : List (List ℕ)
  pub bad : List ℕ
  pub after : List (List ℕ)
  pub are_lines : behind ≡ before ++ (bad ∷ after)
  pub place_is : place ≡ length before
  pub is_front : IsFront before
  pub no_front : ¬ IsFront (before ++ (bad ∷ []))
  pub no_end : is_end_mark bad ≡ true → ¬ IsText before

-- a refutation, with the line of its first row, or else of its first line, or else the end line; or the line at which none is read
pub data TextReading : Type 0 where
  read : RefutationTree → ℕ → TextReading
  bad_line : ℕ → TextReading
  no_start : ℕ → TextReading
  no_end : ℕ → TextReading

pub record ReadsAs (lines : List (List ℕ)) (r : RefutationTree) (first : ℕ) : Type 0 where
  pub before : List (List ℕ)
  pub behind : List (List ℕ)
  pub starts : Starts lines before behind
  pub holds : HoldsText behind r
  pub first_is : first ≡ length before + 3 + length r.names

pub record HasBadLine (lines : List (List ℕ)) (line : ℕ) : Type 0 where
  pub before : List (List ℕ)
  pub behind : List (List ℕ)
  pub place : ℕ
  pub starts : Starts lines before behind
  pub bad : IsBadAt behind place
  pub line_is : line ≡ length before + 2 + place

pub record HasNoStart (lines : List (List ℕ)) (line : ℕ) : Type 0 where
  pub none : list_any is_start lines ≡ false
  pub line_is : line ≡ length lines + 1

pub record HasNoEnd (lines : List (List ℕ)) (line : ℕ) : Type 0 where
  pub before : List (List ℕ)
  pub behind : List (List ℕ)
  pub starts : Starts lines before behind
  pub is_front : IsFront behind
  pub line_is : line ≡ length lines + 1

-- How lines are read. They are counted from 1.
abbrev pub ReadsText : List (List ℕ) → TextReading → Type 0
ReadsText lines (read r first) = ReadsAs lines r first
ReadsText lines (bad_line line) = HasBadLine lines line
ReadsText lines (no_start line) = HasNoStart lines line
ReadsText lines (no_end line) = HasNoEnd lines line

-- whether no line feed is in a line
abbrev pub is_one_line : List ℕ → Bool
is_one_line line = list_all (λ c. not (c == 10)) line

abbrev pub AreLines : List (List ℕ) → Type 0
AreLines [] = Unit {0}
AreLines (l ∷ ls) = (is_one_line l ≡ true) × AreLines ls

-- The text of a refutation stands in bytes between a start line, the first that begins so, and an end line. The first row, or else the
-- first line, or else the end line, stands at the line of this number.
pub record TextStands (bytes : List ℕ) (r : RefutationTree) (first : ℕ) : Type 0 where
  pub before : List (List ℕ)
  pub start : List ℕ
  pub last : List ℕ
  pub rest : List ℕ
  pub bytes_are : bytes ≡ as_bytes (before ++ start ∷ []) ++ (as_bytes (text_lines r) ++ (as_bytes (last ∷ []) ++ rest))
  pub lines_before : AreLines (before ++ start ∷ [])
  pub last_line : is_one_line last ≡ true
  pub none_before : list_any is_start before ≡ false
  pub starts : is_start start ≡ true
  pub ends : is_end_mark last ≡ true
  pub first_is : first ≡ length before + 3 + length r.names
