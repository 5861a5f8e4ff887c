-- The lines of a refutation.
use Rattle.std.specs.Prelude.{ℕ, List, [], ◌∷◌, ◌++◌, map, if◌then◌else◌}
use Rattle.std.specs.List.{list_any, position_or_len}
use Rattle.stt_core.specs.Lambda.{Lambda}
use Rattle.tableau_calculus.specs.declared.rule_use.RuleUse.TheVariants.{Cut}
use Rattle.tableau_calculus.specs.declared.refutation.Child.TheVariants as child
use Rattle.tableau_calculus.specs.declared.refutation.Line.{Line}
use Rattle.sat_base.specs.Literal.{positive}
use Rattle.search_spec.specs.Numbered.{literal_at}
use Rattle.rebuild_spec.specs.Input.{literals_of}
use Rattle.rebuild_spec.specs.Trees.{Tree, leaf, cut, branch, same_line}

-- the lines and then this one, where it isn't there yet
abbrev pub with_line : List Tree → Tree → List Tree
with_line done t = if list_any (same_line t) done then done else done ++ t ∷ []

-- The lines and then those of a walk from this one that aren't there yet: its children's in their order, and then the line itself.
abbrev pub walked : List Tree → Tree → List Tree
walked done (leaf p ls rule children) = with_line done (leaf p ls rule children)
walked done (cut p v t u) = with_line (walked (walked done t) u) (cut p v t u)

-- the number of a line
abbrev pub line_number_in : List Tree → Tree → ℕ
line_number_in lines t = position_or_len (same_line t) lines

-- a line of the refutation, where the children have their numbers in this list
abbrev pub line_of : List Lambda → List Tree → Tree → Line
line_of atoms lines (leaf p ls rule children) = record { branch = literals_of atoms ls; rule = rule; children = children }
line_of atoms lines (cut p v t u) =
    record {
      branch = literals_of atoms (branch (cut p v t u));
      rule = Cut (literal_at atoms (positive v));
      children = child.Line (line_number_in lines t) ∷ child.Line (line_number_in lines u) ∷ [];
    }

-- the lines of the walk from the last line
abbrev pub lines_from : List Lambda → Tree → List Line
lines_from atoms last = let lines = walked [] last in map (line_of atoms lines) lines
