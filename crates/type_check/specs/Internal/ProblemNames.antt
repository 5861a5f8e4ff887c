-- The names that a problem declares.
use Rattle.std.specs.Prelude.{ℕ, List, All}
use Rattle.stt_core.specs.Declarations.{Declarations}
use Rattle.thf_grammar.specs.Trees as tree
use Rattle.thf_grammar.specs.Trees.{BodyTree}
use Rattle.thf_include.specs.View.{PlacedTree}

-- the name that a statement declares, where it declares one, has the property
abbrev pub IsDeclaredWith : (List ℕ → Type 0) → BodyTree → Type 0
IsDeclaredWith P (tree.base at name) = P name
IsDeclaredWith P (tree.typing at name ty) = P name
IsDeclaredWith P (tree.formula t) = Unit {0}

-- each name that is declared by one of the statements has the property
abbrev pub AllDeclared : (List ℕ → Type 0) → List PlacedTree → Type 0
AllDeclared P statements = All (λ s. IsDeclaredWith P s.statement.body) statements

-- each name of a problem has it
pub record AllNames (P : List ℕ → Type 0) (d : Declarations) : Type 0 where
  pub bases : All P d.bases
  pub consts : All (λ c. P c.name) d.consts
