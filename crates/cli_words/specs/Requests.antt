-- What words ask for.
use Rattle.std.specs.Prelude.{ℕ, List, [], ◌∷◌, ◌++◌, codes, Option, Some, None, option_map, if◌then◌else◌}
use Rattle.std.specs.List.{list_all}
use Rattle.std.specs.Option.{option_to_list}
use Rattle.std.specs.Str.{bytes_eq}
use Rattle.cli_words.specs.declared.options.OptionName.{OptionName}
use Rattle.cli_words.specs.declared.options.OptionName.TheVariants.{Mode, Check, Demo, Models, Schedule, Tree, Strict}
use Rattle.cli_words.specs.declared.Cuts.{Cuts}
use Rattle.cli_words.specs.declared.Cuts.TheVariants.{Allowed, Forbidden}
use Rattle.cli_words.specs.Options.{options, option_name, same_name}
use Rattle.cli_words.specs.Line.{is_taken, value_in}
use Rattle.cli_words.specs.Names.{is_file_name, number_to}

-- what the words give: the value of an option, the option without a value, or the problem
pub data WordEntry : Type 0 where
  value : OptionName → List ℕ → WordEntry
  flag : WordEntry
  problem : List ℕ → WordEntry

-- prove a problem, with a mode or the standard mode, and with a tree without cut of at most so many nodes or with none; prove a problem by
-- a schedule of modes; check a refutation's text against a problem, with cuts or without; make and prove a problem; look for a model of at
-- most so many values for each base type; ask whether the two sides of a problem's conjecture are convertible
pub data Request : Type 0 where
  prove : List ℕ → Option (List ℕ) → Option ℕ → Request
  by_schedule : List ℕ → List ℕ → Request
  refutation : Cuts → List ℕ → List ℕ → Request
  generated : ℕ → Request
  models : ℕ → List ℕ → Request
  sides : List ℕ → Request

-- the request, where these are names of files
abbrev pub naming : List (List ℕ) → Request → Option Request
naming names r = if list_all is_file_name names then Some r else None

-- a search for models within a bound, where there is one
abbrev pub models_asked : Option ℕ → List ℕ → Option Request
models_asked None p = None
models_asked (Some upto) p = naming (p ∷ []) (models upto p)

-- a proof with a tree within a bound, where there is one, and with this mode
abbrev pub tree_asked : Option ℕ → Option (List ℕ) → List ℕ → Option Request
tree_asked None mode p = None
tree_asked (Some nodes) mode p = naming (option_to_list mode ++ p ∷ []) (prove p mode (Some nodes))

-- what is asked for by the entries that the words give
abbrev pub asked : List WordEntry → Option Request
asked (problem p ∷ []) = naming (p ∷ []) (prove p None None)
asked (value Mode m ∷ problem p ∷ []) = naming (m ∷ p ∷ []) (prove p (Some m) None)
asked (value Mode m ∷ value Tree nodes ∷ problem p ∷ []) = tree_asked (number_to 10000 nodes) (Some m) p
asked (value Tree nodes ∷ problem p ∷ []) = tree_asked (number_to 10000 nodes) None p
asked (value Schedule file ∷ problem p ∷ []) = naming (file ∷ p ∷ []) (by_schedule file p)
asked (value Check text ∷ problem p ∷ []) = naming (text ∷ p ∷ []) (refutation Allowed text p)
asked (value Strict text ∷ problem p ∷ []) = naming (text ∷ p ∷ []) (refutation Forbidden text p)
asked (value Demo number ∷ []) = option_map generated (number_to 1000 number)
asked (value Models upto ∷ problem p ∷ []) = models_asked (number_to 8 upto) p
asked (flag ∷ problem p ∷ []) = naming (p ∷ []) (sides p)
asked _ = None

-- one entry, where its value is given
abbrev pub given : (List ℕ → WordEntry) → Option (List ℕ) → List WordEntry
given entry v = option_to_list (option_map entry v)

-- the option without a value, where its value is `true`
abbrev pub given_flag : Option (List ℕ) → List WordEntry
given_flag None = []
given_flag (Some v) = if bytes_eq v (codes "true") then flag ∷ [] else []

-- the values of these options that the words give, in their order
abbrev pub values_in : List (List ℕ) → List OptionName → List WordEntry
values_in words [] = []
values_in words (o ∷ os) = given (value o) (value_in words (option_name o)) ++ values_in words os

-- the entries that the words give, in the order of the table, and then the problem
abbrev pub entries_in : List (List ℕ) → List WordEntry
entries_in words = values_in words options ++ (given_flag (value_in words same_name) ++ given problem (value_in words (codes "problem")))

-- what the words ask for: nothing where the command doesn't take them, or where no row of the table fits
abbrev pub asked_by : List (List ℕ) → Option Request
asked_by words = if is_taken words then asked (entries_in words) else None
