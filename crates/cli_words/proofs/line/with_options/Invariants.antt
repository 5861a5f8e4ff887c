use Rattle.std.proofs.Common.{◌≡◌, drop}
use Rattle.clap.specs.Words.{app_of}
use Rattle.cli_words.specs.Line.{with_options}
use Rattle.cli_words.specs.Options.{options}
use Rattle.cli_words.proofs.line.with_options.Given as goal

abbrev pub invariant-loop-option : goal.invariant-loop-option
invariant-loop-option l = with_options (app_of l.command) (drop l.option-index options) ≡ with_options (app_of l.fn.command) options
