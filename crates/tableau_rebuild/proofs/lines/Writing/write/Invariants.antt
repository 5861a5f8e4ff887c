use Rattle.std.proofs.Common.{◌≡◌, [], map, take}
use Rattle.std.specs.List.{AllByRecursion}
use Rattle.witness_names.specs.Rows.{rows_of}
use Rattle.rebuild_spec.specs.Lines.{line_of}
use Rattle.rebuild_spec.specs.NeededRows.{rows_for_lines}
use Rattle.rebuild_spec.specs.Trees.{branch}
use Rattle.small_rebuilt.specs.Small.{HasNumbers}
use Rattle.tableau_rebuild.specs.Tables.{atoms_at}
use Rattle.tableau_rebuild.specs.Internal.Written.{the_tree}
use Rattle.tableau_rebuild.specs.Pools.{IsMadePool}
use Rattle.tableau_rebuild.proofs.lines.Writing.write.Given as goal

abbrev pub invariant-loop-k : goal.invariant-loop-k
invariant-loop-k l = record {
  branches : l.self.branches.items ≡ map (λ i. branch (the_tree l.bank.terms l.atoms l.steps l.drafts i)) (take l.k l.order);
  lines : l.self.written.lines ≡ map (λ i. line_of (atoms_at l.bank.terms l.atoms) (map (the_tree l.bank.terms l.atoms l.steps l.drafts) l.order) (the_tree l.bank.terms l.atoms l.steps l.drafts i)) (take l.k l.order);
  rows : l.self.written.rows ≡ rows_for_lines (rows_of l.bank.terms l.witnesses) l.self.written.lines;
  empty : l.self.resolver.resolver ≡ [];
  made : IsMadePool l.bank.terms l.atoms l.self.pool;
  in_range : AllByRecursion HasNumbers l.self.written.lines;
}
