use Rattle.std.proofs.Common.{◌≡◌, List, ℕ, take}
use Rattle.std.specs.Str.{bytes_eq}
use Rattle.std.specs.List.{list_any}
use Rattle.thf_include.specs.Internal.Selection.{has_name}
use Rattle.thf_include.proofs.selection.statement_names.Given as goal

abbrev pub invariant-loop-placed : goal.invariant-loop-placed
invariant-loop-placed l = record {
  items : l.placed-items ≡ l.gathered;
  names : (name : List ℕ) → has_name l.names name ≡ list_any (λ p. bytes_eq name p.statement.name) (take l.placed-index l.placed-items);
}
