-- The lines before the start line.
use Rattle.std.proofs.Common.{◌≡◌, ℕ, ◌+◌, false, List, ◌++◌, length}
use Rattle.std.specs.List.{list_any}
use Rattle.outside.specs.Lines.{lines_of}
use Rattle.refute_text.specs.Reading.{is_start}

-- lines that are passed over, none of which is the start line; the next one has this number
pub record PassedOver (bytes rest : List ℕ) (line : ℕ) : Type 0 where
  pub before : List (List ℕ)
  pub are_lines : lines_of bytes ≡ before ++ lines_of rest
  pub none : list_any is_start before ≡ false
  pub line_is : line ≡ length before + 1
