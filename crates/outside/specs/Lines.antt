-- The lines of a file.
use Rattle.std.specs.Prelude.{ℕ, ◌==◌, List, [], ◌∷◌, if◌then◌else◌}
use Rattle.std.specs.List.{onto_first}

-- the lines of bytes: a line feed ends each, and the bytes behind the last line feed are one more line, where there are any
abbrev pub lines_of : List ℕ → List (List ℕ)
lines_of [] = []
lines_of (c ∷ cs) = if c == 10 then [] ∷ lines_of cs else onto_first c (lines_of cs)
