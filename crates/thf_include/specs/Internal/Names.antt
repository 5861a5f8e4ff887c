-- Names that files can be opened by.
use Rattle.std.specs.Prelude.{List, IsUtf8}
use Rattle.std.specs.List.{AllByRecursion}
use Rattle.thf_grammar.specs.Trees.{StatementTree, annotated, include}

-- an include has a name that is text
abbrev pub IsNamedStatement : StatementTree → Type 0
IsNamedStatement (annotated a) = Unit {0}
IsNamedStatement (include at name only) = IsUtf8 name

abbrev pub AreNamedStatements : List StatementTree → Type 0
AreNamedStatements tree = AllByRecursion IsNamedStatement tree
