use Rattle.std.proofs.Common.{◌≡◌, ◌||◌, length, take}
use Rattle.rebuild_spec.specs.Trees.{Place, same_place}
use Rattle.rebuild_spec.specs.Stands.{premise_place}
use Rattle.tableau_rebuild.specs.Internal.Flags.{flagged}
use Rattle.tableau_rebuild.proofs.FlagLaws.{any_premise}
use Rattle.tableau_rebuild.proofs.reached.Reached.mark_chain.Given as goal

abbrev pub invariant-loop-k : goal.invariant-loop-k
invariant-loop-k l = record {
  marks : (p : Place) → flagged l.self p ≡ (flagged l.fn.self p || (same_place (premise_place l.fn.chain.first) p || any_premise (take l.k l.steps) p));
  clauses : length l.self.clauses.items ≡ length l.fn.self.clauses.items;
  results : length l.self.results.items ≡ length l.fn.self.results.items;
}
