-- Files in memory beside their counts of faults.
use Rattle.std.specs.Prelude.{ℕ, List, [], ◌∷◌, ◌++◌, map, string_bytes}
use Rattle.outside.specs.declared.file_list.Entry.{Entry}

-- an entry's file: its name and its bytes
abbrev pub file_of : Entry → List ℕ × List ℕ
file_of entry = (string_bytes entry.name, entry.bytes)

-- the files of entries
abbrev pub files_of : List Entry → List (List ℕ × List ℕ)
files_of entries = map file_of entries

-- the count of each entry, and that of all other names
abbrev pub counts_of : List Entry → ℕ → List ℕ
counts_of entries others = map (λ entry. entry.faults) entries ++ others ∷ []
