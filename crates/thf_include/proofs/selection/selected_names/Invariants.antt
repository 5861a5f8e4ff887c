use Rattle.std.proofs.Common.{◌≡◌, List, ℕ, take}
use Rattle.std.specs.Str.{bytes_eq}
use Rattle.std.specs.List.{list_any}
use Rattle.thf_include.specs.Internal.Selection.{has_name}
use Rattle.thf_include.proofs.selection.selected_names.Given as goal

abbrev pub invariant-loop-selected : goal.invariant-loop-selected
invariant-loop-selected l = record {
  items : l.selected-items ≡ l.only;
  names : (name : List ℕ) → has_name l.names name ≡ list_any (λ s. bytes_eq name s.name) (take l.selected-index l.selected-items);
}
