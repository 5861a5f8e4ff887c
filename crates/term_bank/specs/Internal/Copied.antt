-- Entries as copies have them.
use Rattle.term_bank.specs.Shape.{Shape}
use Rattle.term_bank.specs.NodeView.{the_shape}
use Rattle.term_bank.specs.Internal.Sound.{ShapeEntry}
use Rattle.term_bank.specs.declared.marks.Marks.{Marks}

-- the shape of a node, with its marks
abbrev pub shown : ShapeEntry → Shape × Marks
shown e = (the_shape e.0, e.1)
