-- Files by name, each as its name and its bytes.
use Rattle.std.specs.Prelude.{ℕ, List, [], Option, find, slice_get}
use Rattle.std.specs.List.{position_or_len}
use Rattle.std.specs.Option.{option_map, option_map_or}
use Rattle.std.specs.Str.{bytes_eq}

-- the place of the first file of a name, or the number of files where none has it
abbrev pub file_place : List (List ℕ × List ℕ) → List ℕ → ℕ
file_place files name = position_or_len (λ file. bytes_eq file.0 name) files

-- the bytes of the first file of a name
abbrev pub content_of : List (List ℕ × List ℕ) → List ℕ → Option (List ℕ)
content_of files name = option_map (λ file. file.1) (find (λ file. bytes_eq file.0 name) files)

-- the bytes of the file at a place, and none past the last
abbrev pub bytes_at : List (List ℕ × List ℕ) → ℕ → List ℕ
bytes_at files place = option_map_or (λ file. file.1) (slice_get files place) []
