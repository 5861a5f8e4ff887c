use Rattle.std.proofs.Common.{◌≡◌, [], map, length}
use Rattle.thf_grammar.specs.View.{the_selected}
use Rattle.thf_parse.specs.Internal.NoteReader.{all_commas}
use Rattle.thf_parse.specs.Internal.StatementReader.{more_label}
use Rattle.thf_parse.proofs.include.labels.Given as goal

-- what is left is read as all is
abbrev pub invariant-labels : goal.invariant-labels
invariant-labels l = all_commas more_label (map the_selected l.labels) l.cursor ≡ all_commas more_label [] l.fn.cursor

abbrev pub decreases-labels : goal.decreases-labels
decreases-labels l = length l.cursor
