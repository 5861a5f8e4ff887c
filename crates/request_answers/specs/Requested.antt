-- What the words ask for, and the files that it is read from.
use Rattle.std.specs.Prelude.{◌<◌, ◌≤◌, ℕ, true, List, [], ◌++◌, codes, decimal, Option, Some, None}
use Rattle.std.specs.Option.{option_map_or}
use Rattle.outside.specs.Seen.{Seen}
use Rattle.cli_words.specs.Requests.{Request, prove, by_schedule, refutation, generated, models, sides, asked_by}
use Rattle.problem_gen.specs.Chain.{text}

-- the name by which a report calls the problem
abbrev pub problem_name : Request → List ℕ
problem_name (prove p mode nodes) = p
problem_name (by_schedule file p) = p
problem_name (refutation cuts text p) = p
problem_name (generated n) = codes "demo " ++ decimal n
problem_name (models upto p) = p
problem_name (sides p) = p

-- the file of the mode, where one is named
abbrev pub mode_file : Request → Option (List ℕ)
mode_file (prove p mode nodes) = mode
mode_file (by_schedule file p) = None
mode_file (refutation cuts text p) = None
mode_file (generated n) = None
mode_file (models upto p) = None
mode_file (sides p) = None

-- the file of the schedule, where one is named
abbrev pub schedule_file : Request → Option (List ℕ)
schedule_file (prove p mode nodes) = None
schedule_file (by_schedule file p) = Some file
schedule_file (refutation cuts text p) = None
schedule_file (generated n) = None
schedule_file (models upto p) = None
schedule_file (sides p) = None

-- what is known of the files of the problem: those of a generated problem tell its text, under each name
abbrev pub seen_of : Seen → Request → Seen
seen_of seen (generated n) = record { tells = true; contents = λ file. Some (text n) }
seen_of seen r = seen

-- the name by which a report calls the problem, or none where the words ask for nothing
abbrev pub asked_name : List (List ℕ) → List ℕ
asked_name words = option_map_or problem_name (asked_by words) []

-- the number of a request is in its range: that of a problem that is to be generated, and the bound of a search for models
abbrev pub IsRequestInRange : Request → Type 0
IsRequestInRange (prove p mode nodes) = Unit {0}
IsRequestInRange (by_schedule file p) = Unit {0}
IsRequestInRange (refutation cuts text p) = Unit {0}
IsRequestInRange (generated n) = (0 < n) × (n ≤ 1000)
IsRequestInRange (models upto p) = (0 < upto) × (upto ≤ 8)
IsRequestInRange (sides p) = Unit {0}
