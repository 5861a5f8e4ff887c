use Rattle.std.proofs.Common.{◌≡◌, map, get_or, Some, true, false, not, ap, sym, ◌∙◌, arith}
use Rattle.std.specs.Option.{option_map}
use Rattle.std.specs.Prelude.{find}
use Rattle.thf_grammar.specs.View.{the_selected}
use Rattle.thf_include.specs.View.{the_statements}
use Rattle.thf_include.specs.Gathering.{is_missing}
use Rattle.thf_include.proofs.Selections.{missing-is, find-more, find-here}
use Rattle.thf_include.proofs.selection.first_missing.Goals as goal

pub returns-then-not-contains : goal.returns-then-not-contains
returns-then-not-contains c =
    let test = is_missing (the_statements c.args.included.now) in
    let xs = c.as_slice-selected-items.result.now in
    let i = c.loop-selected.selected-index in
    let item = c.selected-item.result in
    let missing : test (the_selected (get_or xs i item)) ≡ true =
    missing-is c.in_ok-names.names c.args.included.now c.in_ok-names.ensures (get_or xs i item) c.as_slice.result.now (c.as_slice.ensures ∙ ap (λ s. s.name) c.selected-item.is)
    ∙ ap not (sym c.contains.ensures ∙ c.if-not-contains.true) in
    ap (λ s. Some s.at) c.selected-item.is
    ∙ sym (ap (option_map (λ s. s.at)) (ap (λ ys. find test (map the_selected ys)) (sym c.loop-selected.invariant.items) ∙ find-here the_selected test xs i item (omega arith) c.loop-selected.invariant.none missing))

pub loop-selected-preserved : goal.loop-selected-preserved
loop-selected-preserved c =
    let test = is_missing (the_statements c.args.included.now) in
    let xs = c.as_slice-selected-items.result.now in
    let i = c.loop-selected.selected-index in
    let item = c.selected-item.result in
    let there : test (the_selected (get_or xs i item)) ≡ false =
    missing-is c.in_ok-names.names c.args.included.now c.in_ok-names.ensures (get_or xs i item) c.as_slice.result.now (c.as_slice.ensures ∙ ap (λ s. s.name) c.selected-item.is)
    ∙ ap not (sym c.contains.ensures ∙ c.if-not-contains.false) in
    record {
      items = c.loop-selected.invariant.items;
      none = find-more the_selected test xs i item (omega arith) c.loop-selected.invariant.none there;
    }
