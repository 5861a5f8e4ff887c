-- The system's files, over a file type F that may tell what is left of a file.
use Rattle.std.specs.Prelude.{ℕ, List, Bool, Option, is_some, option_and_then}
use Rattle.outside.specs.declared.std_files.StdFiles.{StdFiles}

-- whether a file is open
abbrev pub is_reading : {R F D : Type 0} → StdFiles R F D → Bool
is_reading files = is_some files.current

-- how many calls have failed
abbrev pub fault_count : {R F D : Type 0} → StdFiles R F D → ℕ
fault_count files = files.faults

-- what is left of the open file, where it tells that
abbrev pub known_left : {R F D : Type 0} → (F → Option (List ℕ)) → StdFiles R F D → Option (List ℕ)
known_left remaining files = option_and_then remaining files.current
