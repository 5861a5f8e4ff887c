-- The one command of the program, and what it takes from the words, by clap's definition for simple commands.
use Rattle.std.specs.Prelude.{Bool, List, [], ◌∷◌, codes, Some, Option, true, false}
use Rattle.clap.specs.Simple.{new_shape}
use Rattle.clap.specs.Words.{App, Rule, Text, new_rule, with_rule, fault_of, matches_of, first_of}
use Rattle.clap.specs.declared.builder.action.ArgAction.TheVariants.{SetTrue}
use Rattle.cli_words.specs.declared.options.OptionName.{OptionName}
use Rattle.cli_words.specs.Options.{options, option_name, same_name}

-- an option that takes one value, by its long name
abbrev pub option_rule : Text → Rule
option_rule name = record (new_rule name) { long = Some name }

-- an option that takes no value, by its long name: its value is `true` where it is there, and else `false`
abbrev pub flag_rule : Text → Rule
flag_rule name = record (new_rule name) { long = Some name; action = Some SetTrue }

-- a command that reads the program's words alone, without the program's name
abbrev pub bare : App
bare = record { top = record (new_shape (codes "satallax")) { no_binary_name = true }; subs = [] }

abbrev pub with_options : App → List OptionName → App
with_options app [] = app
with_options app (o ∷ os) = with_options (with_rule app (option_rule (option_name o))) os

-- The options of the table, the one without a value, and the positional PROBLEM. No rule ties one to another.
abbrev pub line : App
line = with_rule (with_rule (with_options bare options) (flag_rule same_name)) (new_rule (codes "problem"))

abbrev pub is_nil : {X : Type 0} → List X → Bool
is_nil [] = true
is_nil (x ∷ xs) = false

-- whether the command takes the words: it finds no fault in them
unfoldable pub is_taken : List Text → Bool
is_taken words = is_nil (fault_of line words)

-- the value of an option, or of the problem, that the words give
unfoldable pub value_in : List Text → Text → Option Text
value_in words id = first_of id (matches_of line words)
