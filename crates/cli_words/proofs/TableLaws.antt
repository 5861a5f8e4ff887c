-- The table of options, from one option on.
use Rattle.std.proofs.Common.{◌≡◌, ◌∙◌, ℕ, ◌+◌, ◌<◌, ◌≤◌, ◌∷◌, ◌++◌, List, length, drop, get_or, sym, ap, add-one, append_assoc, append-nil}
use Rattle.std.proofs.lemmas.List.{drop_all}
use Rattle.std.proofs.Math.Seq.{drop-cons}
use Rattle.clap.specs.Words.{App, with_rule}
use Rattle.cli_words.specs.declared.options.OptionName.{OptionName}
use Rattle.cli_words.specs.Line.{with_options, option_rule, value_in}
use Rattle.cli_words.specs.Options.{options, option_name}
use Rattle.cli_words.specs.Requests.{WordEntry, value, given, values_in}

drop-next : (i : ℕ) (d : OptionName) → i < length options → drop i options ≡ get_or options i d ∷ drop (i + 1) options
drop-next i d h = rw add-one (drop-cons options i d h)

pub with_options-next : (a b : App) (i : ℕ) (d : OptionName) → i < length options → b ≡ with_rule a (option_rule (option_name (get_or options i d))) → with_options a (drop i options) ≡ with_options b (drop (i + 1) options)
with_options-next a b i d h e =
    ap (with_options a) (drop-next i d h) ∙ ap (λ (app : App). with_options app (drop (i + 1) options)) (sym e)

pub values_in-next : (words : List (List ℕ)) (a b : List WordEntry) (i : ℕ) (d : OptionName) → i < length options → b ≡ a ++ given (value (get_or options i d)) (value_in words (option_name (get_or options i d))) → a ++ values_in words (drop i options) ≡ b ++ values_in words (drop (i + 1) options)
values_in-next words a b i d h e =
    ap (λ (os : List OptionName). a ++ values_in words os) (drop-next i d h)
    ∙ sym (append_assoc a (given (value (get_or options i d)) (value_in words (option_name (get_or options i d)))) (values_in words (drop (i + 1) options)))
    ∙ ap (λ (es : List WordEntry). es ++ values_in words (drop (i + 1) options)) (sym e)

pub values_in-over : (words : List (List ℕ)) (a : List WordEntry) (i : ℕ) → length options ≤ i → a ++ values_in words (drop i options) ≡ a
values_in-over words a i h = ap (λ (os : List OptionName). a ++ values_in words os) (drop_all i options h) ∙ append-nil a
