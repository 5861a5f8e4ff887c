-- A text of the code as a plain tree.
use Rattle.std.specs.Prelude.{◌≡◌, ℕ, ◌+◌, List, [], ◌∷◌, map, length}
use Rattle.refute_print.specs.Trees.{LineTree, RefutationTree}
use Rattle.refute_print.specs.declared.line.TextLine.{TextLine}
use Rattle.refute_print.specs.declared.line.RefutationText.{RefutationText}

abbrev pub the_line : TextLine → LineTree
the_line l = record { branch = l.branch; rule = l.rule; children = l.children }

abbrev pub version_number : List (List ℕ) → ℕ
version_number [] = 1
version_number (w ∷ names) = 2

-- the version is that of its names, whose lines stand before the first row, or else the first line, or else the end line
pub record IsNumberedText (t : RefutationText) : Type 0 where
  pub version_is : t.version ≡ version_number t.names
  pub first_is : t.first ≡ t.names_at + length t.names

abbrev pub the_text : RefutationText → RefutationTree
the_text t = record { names = t.names; rows = t.witnesses; lines = map the_line t.lines }
