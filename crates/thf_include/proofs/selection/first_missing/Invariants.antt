use Rattle.std.proofs.Common.{◌≡◌, None, map, take}
use Rattle.std.specs.Prelude.{find}
use Rattle.thf_grammar.specs.View.{the_selected}
use Rattle.thf_include.specs.View.{the_statements}
use Rattle.thf_include.specs.Gathering.{is_missing}
use Rattle.thf_include.proofs.selection.first_missing.Given as goal

abbrev pub invariant-loop-selected : goal.invariant-loop-selected
invariant-loop-selected l = record {
  items : l.selected-items ≡ l.only;
  none : find (is_missing (the_statements l.included)) (map the_selected (take l.selected-index l.selected-items)) ≡ None;
}
