-- A problem's statements as plain data.
use Rattle.std.specs.Prelude.{ℕ, List, map}
use Rattle.thf_grammar.specs.Trees.{AnnotatedTree}
use Rattle.thf_grammar.specs.View.{the_annotated}
use Rattle.thf_include.specs.declared.gathered.Placed.{Placed}

-- a statement, and the number of its file
pub record PlacedTree : Type 0 where
  pub file : ℕ
  pub statement : AnnotatedTree

abbrev pub the_placed : Placed → PlacedTree
the_placed p = record { file = p.file; statement = the_annotated p.statement }

-- the statements of a problem
abbrev pub the_statements : List Placed → List PlacedTree
the_statements placed = map the_placed placed
