use Rattle.std.proofs.Common.{◌≡◌, ◌++◌, map, drop}
use Rattle.std.specs.String.{string_bytes}
use Rattle.cli_words.specs.Options.{options}
use Rattle.cli_words.specs.Requests.{values_in}
use Rattle.cli_words.specs.View.{the_entry}
use Rattle.cli_words.proofs.line.entries.Given as goal

abbrev pub invariant-loop-option : goal.invariant-loop-option
invariant-loop-option l = map the_entry l.entries.items ++ values_in (map string_bytes l.words) (drop l.option-index options) ≡ values_in (map string_bytes l.words) options
