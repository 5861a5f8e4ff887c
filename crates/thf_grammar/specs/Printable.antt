-- The names of a file that are printable.
use Rattle.std.specs.Prelude.{ℕ, ◌<◌, Bool, ◌&&◌, nat_le, List, length, Option, Some, None}
use Rattle.std.specs.List.{AllPass, AllByRecursion}
use Rattle.thf_grammar.specs.Trees.{BodyTree, base, typing, formula, SelectedTree, StatementTree, annotated, include}

-- a printable character of ASCII: from the space to `~`
abbrev pub is_printable : ℕ → Bool
is_printable c = nat_le 32 c && nat_le c 126

-- one or more printable characters
abbrev pub IsPrintable : List ℕ → Type 0
IsPrintable name = (0 < length name) × AllPass is_printable name

-- the name that the body declares, if it declares one, is printable
abbrev pub BodyDeclaresPrintable : BodyTree → Type 0
BodyDeclaresPrintable (base at name) = IsPrintable name
BodyDeclaresPrintable (typing at name ty) = IsPrintable name
BodyDeclaresPrintable (formula tree) = Unit {0}

abbrev pub DeclaresPrintable : StatementTree → Type 0
DeclaresPrintable (annotated a) = BodyDeclaresPrintable a.body
DeclaresPrintable (include at file only) = Unit {0}

-- each name that a statement declares is printable
abbrev pub DeclaredArePrintable : List StatementTree → Type 0
DeclaredArePrintable tree = AllByRecursion DeclaresPrintable tree

abbrev pub SelectsPrintable : Option (List SelectedTree) → Type 0
SelectsPrintable None = Unit {0}
SelectsPrintable (Some only) = AllByRecursion (λ (s : SelectedTree). IsPrintable s.name) only

abbrev pub IncludesPrintable : StatementTree → Type 0
IncludesPrintable (annotated a) = Unit {0}
IncludesPrintable (include at file only) = IsPrintable file × SelectsPrintable only

-- each file that a statement includes has a printable name, and so have the statements that it selects
abbrev pub IncludedArePrintable : List StatementTree → Type 0
IncludedArePrintable tree = AllByRecursion IncludesPrintable tree
