use Rattle.std.proofs.Common.{◌++◌, ◌∙◌, List, sym, map, arith, string_bytes, ap, codes, get_or, append_assoc}
use Rattle.cli_words.specs.Options.{options}
use Rattle.cli_words.specs.Requests.{WordEntry, values_in, value, problem, given, given_flag}
use Rattle.cli_words.specs.Line.{value_in}
use Rattle.cli_words.specs.View.{the_entry}
use Rattle.cli_words.specs.declared.options.OptionName.{OptionName}
use Rattle.cli_words.specs.declared.options.OptionName.TheVariants.{Mode}
use Rattle.cli_words.proofs.TableLaws.{values_in-next, values_in-over}
use Rattle.cli_words.proofs.line.entries.Goals as goal

pub loop-option-preserved : goal.loop-option-preserved
loop-option-preserved c =
    let words = map string_bytes c.args.words.now in
    let a = map the_entry c.loop-option.entries.items in
    let o : OptionName = get_or options c.loop-option.option-index Mode in
    sym (values_in-next words a (map the_entry c.add.new.entries.items) c.loop-option.option-index Mode c.loop-option-test.true
    (c.in_ok-add.ensures ∙ ap (λ (es : List WordEntry). a ++ es) (c.option_entry.ensures ∙ ap (given (value o)) (c.get_str-text.ensures ∙ c.in_ok-matches.ensures.values _ ∙ ap (value_in words) c.name.ensures))))
    ∙ c.loop-option.invariant

pub returns-clause-entries : goal.returns-clause-entries
returns-clause-entries c =
    let words = map string_bytes c.args.words.now in
    let a = map the_entry c.loop-option.entries.items in
    let all = sym (values_in-over words a c.loop-option.option-index (omega (arith, c.loop-option-test.false))) ∙ c.loop-option.invariant in
    let flag = c.flag.ensures ∙ ap given_flag (c.get_str.ensures ∙ c.in_ok-matches.ensures.values _) in
    let last = c.problem_entry.ensures ∙ ap (given problem) (c.get_str-2.ensures ∙ c.in_ok-matches.ensures.values (codes "problem")) in
    c.in_ok-add-3.ensures
    ∙ ap (λ (es : List WordEntry). map the_entry c.add-2.new.entries.items ++ es) last
    ∙ ap (λ (es : List WordEntry). es ++ given problem (value_in words (codes "problem"))) (c.in_ok-add-2.ensures ∙ ap (λ (es : List WordEntry). a ++ es) flag ∙ ap (λ (es : List WordEntry). es ++ given_flag (value_in words (codes "same"))) all)
    ∙ append_assoc (values_in words options) (given_flag (value_in words (codes "same"))) (given problem (value_in words (codes "problem")))
