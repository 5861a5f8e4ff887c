use Rattle.std.proofs.Common.{◌∙◌, List, ℕ, sym, ap}
use Rattle.clap.specs.Words.{app_of, with_rule}
use Rattle.cli_words.specs.Line.{option_rule}
use Rattle.cli_words.proofs.TableLaws.{with_options-next}
use Rattle.cli_words.proofs.line.with_options.Goals as goal

pub loop-option-preserved : goal.loop-option-preserved
loop-option-preserved c =
    let is = c.in_ok-command.ensures ∙ ap (λ (name : List ℕ). with_rule (app_of c.loop-option.command) (option_rule name)) c.name.ensures in
    sym (with_options-next _ _ c.loop-option.option-index _ c.loop-option-test.true is) ∙ c.loop-option.invariant
