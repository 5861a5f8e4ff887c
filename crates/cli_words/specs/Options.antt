-- The table of the program's options that take one value, in the order in which the usage line has them. Behind them stands one option
-- that takes none.
use Rattle.std.specs.Prelude.{ℕ, List, [], ◌∷◌, codes}
use Rattle.cli_words.specs.declared.options.OptionName.{OptionName}
use Rattle.cli_words.specs.declared.options.OptionName.TheVariants.{Mode, Check, Demo, Models, Schedule, Tree, Strict}

abbrev pub options : List OptionName
options = Mode ∷ Check ∷ Demo ∷ Models ∷ Schedule ∷ Tree ∷ Strict ∷ []

-- an option's name, which stands behind two hyphens
abbrev pub option_name : OptionName → List ℕ
option_name Mode = codes "mode"
option_name Check = codes "check"
option_name Demo = codes "demo"
option_name Models = codes "models"
option_name Schedule = codes "schedule"
option_name Tree = codes "tree"
option_name Strict = codes "strict"

-- the option that takes no value
abbrev pub same_name : List ℕ
same_name = codes "same"
