use Rattle.std.proofs.Common.{◌≡◌, length}
use Rattle.tableau_rebuild.proofs.NumberLaws.{AreFirst}
use Rattle.tableau_rebuild.proofs.numbering.number_lines.Given as goal

abbrev pub invariant-loop-draft : goal.invariant-loop-draft
invariant-loop-draft l = length l.numbers.items ≡ l._draft-index

abbrev pub invariant-loop-k : goal.invariant-loop-k
invariant-loop-k l = record {
  count : length l.numbers.items ≡ length l.drafts;
  first : AreFirst l.order l.numbers.items l.k;
}
