-- Nodes over two operands, which are read before the node, the left one first.
use Rattle.std.specs.Prelude.{ℕ, List}
use Rattle.stt_core.specs.TypedName.{TypedName}
use Rattle.stt_core.specs.Declarations.{Declarations}
use Rattle.thf_grammar.specs.Trees.{FormulaTree}
use Rattle.type_check.specs.Outcome.{◌>>=◌}
use Rattle.type_check.specs.Typed.{TypedTerm}
use Rattle.type_check.specs.Terms.{TermReading, typed_connection, typed_equation, typed_application, read_term}
use Rattle.type_check.specs.declared.nodes.Infix.{Infix}
use Rattle.type_check.specs.declared.nodes.Infix.TheVariants.{Join, Equality, Application}

abbrev pub combined : ℕ → Infix → TypedTerm → TypedTerm → TermReading
combined at (Join conn) x y = typed_connection at conn x y
combined at (Equality positive) x y = typed_equation at positive x y
combined at Application x y = typed_application at x y

abbrev pub read_infix : Declarations → ℕ → Infix → FormulaTree → FormulaTree → List TypedName → TermReading
read_infix d at between s t scope = do
  x ← read_term d scope s
  y ← read_term d scope t
  combined at between x y
